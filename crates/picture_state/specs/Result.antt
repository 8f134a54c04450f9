-- Programs that may end early with an error, as Rust's Result: E says why.
use Rattle.std.specs.Prelude.{ℕ}
use Rattle.bits.specs.Programs.{Prog, done, bind}
use Rattle.bits.specs.Programs as Programs

-- a value, or an error
pub data Result (E A : Type 0) : Type 0 where
  ok : A → Result E A
  error : E → Result E A

-- f of the value, where there is no error; nothing is read
unfoldable pub and_then : {E A B : Type 0} → Result E A → (A → Result E B) → Result E B
and_then (ok x) f = f x
and_then (error e) f = error e

-- a program that follows where there is no error
unfoldable pub if_ok : {E A B : Type 0} → (A → Prog (Result E B)) → Result E A → Prog (Result E B)
if_ok f (ok x) = f x
if_ok f (error e) = done (error e)

-- p, and f of its value where there is no error
unfoldable pub bind_result : {E A B : Type 0} → Prog (Result E A) → (A → Prog (Result E B)) → Prog (Result E B)
bind_result p f = bind p (if_ok f)

-- do-notation
infixl 1 ◌>>=◌
abbrev pub ◌>>=◌ : {E A B : Type 0} → Prog (Result E A) → (A → Prog (Result E B)) → Prog (Result E B)
◌>>=◌ = bind_result

infixl 1 ◌>>◌
abbrev pub ◌>>◌ : {E A B : Type 0} → Prog (Result E A) → Prog (Result E B) → Prog (Result E B)
p >> q = bind_result p (λ x. q)

-- for (i = 0; i < n; i++): f 0, f 1 .. f (n - 1) in turn, as long as they go on
abbrev pub for_below : {E A : Type 0} → ℕ → (ℕ → A → Prog (Result E A)) → A → Prog (Result E A)
for_below n f x = Programs.for_below n (λ i. if_ok (f i)) (ok x)

-- a program that has no errors
unfoldable pub lift : {E A : Type 0} → Prog A → Prog (Result E A)
lift p = bind p (λ v. done (ok v))

-- a result that is there without reading
abbrev pub from_result : {E A : Type 0} → Result E A → Prog (Result E A)
from_result w = done w

-- and one that is a value
abbrev pub pure : {E A : Type 0} → A → Prog (Result E A)
pure x = done (ok x)
