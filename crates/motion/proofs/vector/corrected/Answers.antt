-- Each return by the case of the correction that its tests say.
use Rattle.std.proofs.Common.{◌≡◌, ℕ, ◌*◌, ◌^◌, ◌%◌, ◌≤◌, Bool, cond, List, [], ◌∷◌, ℤ, pos, nat_abs, refl, arith}
use lib.Pow.{pow_mono}
use lib.Signed.{lt_z}
use mir.Syntax.{w32}
use Rattle.laws.proofs.Exprs.{Exp, var, cst, ◌⊹◌, ◌∸◌, neg, Input, local, signed, term, value, test}
use Rattle.motion.specs.Displacement.{corrected}
use Rattle.motion.proofs.vector.corrected.Goals as goal

-- of the inputs motion, 16 f, 32 f
abbrev motion : Exp
motion = var 0

abbrev top : Exp
top = var 1 ∸ cst 1

abbrev bottom : Exp
bottom = neg (var 1)

abbrev less : Exp
less = var 0 ∸ var 2

abbrev more : Exp
more = var 0 ⊹ var 2

module _ (r : ℕ) (m : ℤ) (h : r ≤ 6) (b : nat_abs m ≤ 2048) where
  abbrev f : ℕ
  f = 2 ^ r

  scaled : f ≤ 64
  scaled = pow_mono h

  abbrev ρ : List (Input w32)
  ρ = signed w32 m 2048 b
      ∷ local w32 (1 * f % 4294967296 * 16 % 4294967296) (pos (16 * f)) 1024 (record { is = omega (arith, scaled); bound = omega (arith, scaled) })
      ∷ local w32 (1 * f % 4294967296 * 32 % 4294967296) (pos (32 * f)) 2048 (record { is = omega (arith, scaled); bound = omega (arith, scaled) })
      ∷ []

  -- the correction, by what the two tests of the locals give
  chosen : {t u : Bool} → lt_z (term ρ top) (term ρ motion) ≡ t → lt_z (term ρ motion) (term ρ bottom) ≡ u
      → cond t (term ρ less) (cond u (term ρ more) (term ρ motion)) ≡ corrected f m
  unfolding corrected
  chosen e g =
      rw (test ρ top motion tt tt e, test ρ motion bottom tt tt g, value ρ less tt, value ρ more tt, value ρ motion tt)

pub returns : goal.returns
returns c =
    chosen c.args.r c.args.motion c.requires.r_bound c.requires.motion_bound c.if-motion-fscale.false c.if-motion-fscale-2.false

pub returns-then-motion-fscale : goal.returns-then-motion-fscale
returns-then-motion-fscale c =
    chosen c.args.r c.args.motion c.requires.r_bound c.requires.motion_bound c.if-motion-fscale.true refl

pub returns-then-motion-fscale-2 : goal.returns-then-motion-fscale-2
returns-then-motion-fscale-2 c =
    chosen c.args.r c.args.motion c.requires.r_bound c.requires.motion_bound c.if-motion-fscale.false c.if-motion-fscale-2.true
