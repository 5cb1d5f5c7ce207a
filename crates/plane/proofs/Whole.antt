-- Whole numbers: the ring ℤ, its order, and a solver for equations and signs over points of the plane.
pub mod Integers
pub mod Order
pub mod Ring
pub mod Points
pub mod Signs
