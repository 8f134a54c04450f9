-- The length of the page, by a law over any length, so that none is computed.
use Rattle.std.proofs.Common.{◌≡◌, ℕ, sym, length}
use lib.ListN.{replicate, length-replicate}
use Rattle.listing.proofs.page.Goals as goal

long : (n x : ℕ) → n ≡ length (replicate n x)
long n x = sym (length-replicate n x)

pub returns : goal.returns
returns c = long 1572864 0
