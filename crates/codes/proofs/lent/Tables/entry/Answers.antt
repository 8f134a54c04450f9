-- The matrix among the tables, by whether the block is intra.
use Rattle.std.proofs.Common.{◌≡◌, ◌∙◌, ◌+◌, ◌<◌, ap, sym, cond, Bool, true, false, List, ℕ, get_or}
use Rattle.codes.specs.DecodingTables.{matrix_of, intra_matrix_at, non_intra_matrix_at}
use Rattle.codes.proofs.Parts.{matrix-at}
use Rattle.codes.proofs.lent.Tables.entry.Goals as goal

read-entry : (t : List ℕ) (intra t₀ : Bool) (place : ℕ) → intra ≡ t₀ → place < 64
    → get_or t (cond t₀ intra_matrix_at non_intra_matrix_at + place) 0 ≡ get_or (matrix_of t intra) place 0
read-entry t intra t₀ place e h = sym (matrix-at t t₀ place h) ∙ ap (λ (b : Bool). get_or (matrix_of t b) place 0) (sym e)

pub returns-then-intra : goal.returns-then-intra
returns-then-intra c = rw (← c.self.view_is) (read-entry _ c.args.intra true c.args.position c.if-intra.true c.requires)

pub returns : goal.returns
returns c = rw (← c.self.view_is) (read-entry _ c.args.intra false c.args.position c.if-intra.false c.requires)
