-- Lists of which a function was made of each element. Assumes nothing.
use mathlib.Core.Path.{◌≡◌, refl, ap}
use mathlib.Core.List.{List, [], ◌∷◌, map}
use Prim.Native.Nat.{ℕ, zero, suc}
use lib.ListN.{length, get_or}

pub map_at : {A B : Type 0} (f : A → B) (l : List A) (d : A) (i : ℕ) → get_or (map f l) i (f d) ≡ f (get_or l i d)
map_at f [] d i = refl
map_at f (x ∷ l) d zero = refl
map_at f (x ∷ l) d (suc i) = map_at f l d i

pub length-map : {A B : Type 0} (f : A → B) (l : List A) → length (map f l) ≡ length l
length-map f [] = refl
length-map f (x ∷ l) = ap suc (length-map f l)
