-- The measure of `Page::digits`: it calls itself at the number's tenth.
use Rattle.writing.proofs.page.Page.+digits.Given as goal

abbrev pub decreases-digits : goal.decreases-digits
decreases-digits l = l.n
