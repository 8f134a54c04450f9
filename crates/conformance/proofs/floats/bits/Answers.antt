use Rattle.std.proofs.Common.{◌≡◌, Bool, true, false, refl, sym, ◌∙◌, ⊎_elim}
use Rattle.std.proofs.lemmas.Bool.{false≢true}
use Rattle.std.proofs.lemmas.Float.{le_refl, lt_irrefl, lt-or-eq, T_from_false}
use lib.Dec.{T}
use lib.Ieee.{Float, nan, inf, fin, eq, is_nan}
use Rattle.std.specs.Float.{NotNan}
use Rattle.conformance.specs.Floats.{bits}
use Rattle.conformance.proofs.floats.bits.Goals as goal

-- only a NaN is not equal to itself
nan-differs : (x : Float) → is_nan x ≡ true → eq x x ≡ false
unfolding eq is_nan
nan-differs nan e = refl
nan-differs (inf s) e = absurd (false≢true e)
nan-differs (fin s m k) e = absurd (false≢true e)

holds : (b : Bool) → T b → b ≡ true
holds true t = refl
holds false t = absurd t

number-same : (x : Float) → NotNan x → eq x x ≡ true
number-same x h = holds (eq x x) (⊎_elim (λ l. absurd (lt_irrefl x l)) (λ e. e) (lt-or-eq x x (le_refl x h)))

pub returns-then-is_nan : goal.returns-then-is_nan
unfolding bits
returns-then-is_nan c = rw (nan-differs c.args.x (sym c.is_nan.ensures.value ∙ c.if-is_nan.true)) refl

pub returns-else-is_nan : goal.returns-else-is_nan
unfolding bits
returns-else-is_nan c = rw (number-same c.args.x (T_from_false (is_nan c.args.x) (sym c.is_nan.ensures.value ∙ c.if-is_nan.false))) refl
