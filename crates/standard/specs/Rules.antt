-- The two rules that specs/Standard leaves open: those of the Rust, and the printed rule of reconstruction.
use Rattle.codes.specs.Matrices.{premultiplier_matrix}
use Rattle.coefficients.specs.{Dequantise.quantiser, Dequantise.dequantised, Standard.dct_recon, Standard.same_recon}
use Rattle.transform.specs.Idct.{idct}
use Rattle.std.specs.Prelude.{true, List, [], ◌∷◌, ℤ, pos, ◌*ℤ◌}
use Rattle.standard.specs.Standard.{State.Rules}

-- RULES 4.1: dct_recon times the premultiplier, place by place
abbrev pub times : List ℤ → List ℤ → List ℤ
times [] ps = []
times (x ∷ xs) [] = (x *ℤ pos 0) ∷ times xs []
times (x ∷ xs) (p ∷ ps) = (x *ℤ p) ∷ times xs ps

-- RULES 4.1, 4.2: the Rust's transform (DIFFERENCES A.13)
abbrev pub transformed : List ℤ → List ℤ
transformed recon = idct (times recon premultiplier_matrix)

-- the Rust's rule, which admits everything
abbrev pub rust : Rules
rust = record { dct_recon = λ i z s q. dequantised (quantiser i s) z q; admitted = λ i z s q. true; transform = transformed }

-- the printed rule, which admits what the Rust makes the same of (DIFFERENCES A.1 to A.3; `same-is` in crates/coefficients/proofs/Standard.antt)
abbrev pub printed : Rules
printed = record { dct_recon = dct_recon; admitted = same_recon; transform = transformed }
