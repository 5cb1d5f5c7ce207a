pub mod Below
pub mod System
pub mod Status
pub mod Search
pub mod Strikes
pub mod Demands
