-- RULES O.4: where a header is accepted, the store becomes 0.
use Rattle.std.specs.Prelude.{List, ◌++◌, ℕ, replicate, drop}

-- the first n bytes become 0, and later ones stay
unfoldable pub cleared : ℕ → List ℕ → List ℕ
cleared n l = replicate n 0 ++ drop n l
