-- RULES 3.5, 3.6 (11172-2, 2.4.2.8): a coefficient as it is coded.
use Rattle.std.specs.Prelude.{◌&&◌, ℕ, ◌/◌, ◌%◌, eqb, ltb, ℤ, pos, neg_ℤ, ◌-ℤ◌}
use Rattle.bits.specs.Programs.{Prog, done, bits, ◌>>=◌, when◌then◌else◌}
use Rattle.codes.specs.Codes.{dct_coeff}
use Rattle.coefficients.specs.declared.coefficient.Coefficient.{Coefficient}
use Rattle.coefficients.specs.declared.coefficient.Coefficient.TheVariants.{EndOfBlock, RunLevel}

-- 8 bits of level; 0 and 128 bring 8 more
unfoldable pub escape_level : Prog ℤ
escape_level = do
  field ← bits 8
  when eqb field 0 then (do level ← bits 8; done (pos level))
      else when eqb field 128 then (do level ← bits 8; done (pos level -ℤ pos 256))
      else when ltb 128 field then done (pos field -ℤ pos 256) else done (pos field)

-- 6 bits of run and the level
unfoldable pub escape : Prog Coefficient
escape = do
  run ← bits 6
  level ← escape_level
  done (RunLevel run level)

-- a pair from its code, with the sign read behind it; or by the escape
unfoldable pub run_level : ℕ → Prog Coefficient
run_level code =
    when eqb code 0xffff then escape
    else do
      sign ← bits 1
      when eqb sign 0 then done (RunLevel (code / 256) (pos (code % 256))) else done (RunLevel (code / 256) (neg_ℤ (pos (code % 256))))

-- the code of run 0 and level 1, where it is not the first, is an end of block if a 0 follows
unfoldable pub coefficient : ℕ → Prog Coefficient
coefficient n = do
  code ← dct_coeff
  when eqb code 1 && ltb 0 n then (do more ← bits 1; when eqb more 0 then done EndOfBlock else run_level code) else run_level code
