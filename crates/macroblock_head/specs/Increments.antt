-- RULES 7.7 (11172-2, 2.4.2.7): the address increment.
use Rattle.std.specs.Prelude.{◌&&◌, ℕ, ◌+◌, eqb}
use Rattle.laws.specs.Loops.{Step, continue, finish}
use Rattle.bits.specs.Programs.{Prog, done, loop, stream_fuel, ◌>>=◌, when◌then◌else◌}
use Rattle.codes.specs.Codes.{macroblock_address_increment}

-- RULES 7.7: a code of 34 (stuffing) is dropped where no 35 (escape) came before it; a 35 adds 33 and goes on; any other is added and is the last
unfoldable pub increment_step : ℕ → Prog (Step ℕ ℕ)
increment_step sum = do
  c ← macroblock_address_increment
  when eqb c 34 && eqb sum 0 then done (continue 0) else when eqb c 35 then done (continue (sum + 33)) else done (finish (sum + c))

-- RULES 7.7: the sum of the codes
unfoldable pub increment : Prog ℕ
increment = loop stream_fuel increment_step 0 0
