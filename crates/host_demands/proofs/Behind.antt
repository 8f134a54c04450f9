-- What lies behind a record that is written.
use mathlib.Core.List.{List}
use mathlib.Core.Path.{◌≡◌, refl, sym, ap, subst, ◌∙◌}
use Prim.Native.Nat.{ℕ}
use lib.ListN.{length, drop}
use lib.Seq.{drop_at}
use Rattle.decoder.specs.declared.record.Decoder.{Decoder}
use Rattle.memory.specs.Fields.{numbers_of, integers_of, matrices_of, clock_of, number_count, integer_count, matrix_count, clock_count}
use Rattle.memory.specs.Memory.{Memory, over, written, HoldsRecord}
use Rattle.memory.proofs.WriteBack.{integers-long, matrices-long}
use Rattle.host_demands.specs.Leaves.{SameBehind}

behind : {A : Type 0} (k : ℕ) (v l : List A) → length v ≡ k → drop k (over v l) ≡ drop k l
behind k v l e = drop_at v (drop (length v) l) k e ∙ ap (λ n. drop n l) e

pub same-behind : {x : Memory} → SameBehind x x
same-behind = record { numbers = refl; integers = refl; matrices = refl; clock = refl }

pub left_behind : {d : Decoder} {x z : Memory} → HoldsRecord z d → z ≡ written d x → SameBehind x z
unfolding written
left_behind {d} {x} {z} h e =
    let long : length (integers_of d) ≡ integer_count =
    subst (λ (r : Decoder). length (integers_of r) ≡ integer_count) h.record_is (integers-long z h.is) in
    let wide : length (matrices_of d) ≡ matrix_count =
    subst (λ (r : Decoder). length (matrices_of r) ≡ matrix_count) h.record_is (matrices-long z h.is) in
    record {
      numbers = ap (λ w. drop number_count w.numbers) e ∙ behind number_count (numbers_of d) x.numbers refl;
      integers = ap (λ w. drop integer_count w.integers) e ∙ behind integer_count (integers_of d) x.integers long;
      matrices = ap (λ w. drop matrix_count w.matrices) e ∙ behind matrix_count (matrices_of d) x.matrices wide;
      clock = ap (λ w. drop clock_count w.clock) e ∙ behind clock_count (clock_of d) x.clock refl;
    }
