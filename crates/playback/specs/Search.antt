-- RULES Q3, 8.2, 8.3: the searches for a start code, of a sequence or of a picture.
use Rattle.std.specs.Prelude.{Bool, not, ◌||◌, List, ℕ, ◌*◌, leb, ℤ, pos, negsuc, length}
use Rattle.bits.specs.Programs.{run, eq_z, find_start_code, when◌then◌else◌}
use Rattle.playback.specs.declared.state.State.{State}
use Rattle.playback.specs.State.{position, start_code, with_search_result}

-- RULES Q3, 8.2: the start code c is searched, unless the state has it already
unfoldable pub ensure_start_code : ℤ → List ℕ → State → State
ensure_start_code c s x =
    when eq_z (start_code x) c then x
    else let o = run (find_start_code c) s (position x) in with_search_result o.value o.at x

-- RULES 8.2: the next picture
abbrev pub next_picture : List ℕ → State → State
next_picture = ensure_start_code (pos 0)

-- RULES 1.4: the exact end of the bits
abbrev pub has_ended : List ℕ → ℕ → Bool
has_ended s a = leb (length s * 8) a

-- RULES 8.3: a second picture start code is found from the place a on, or the bits end there
unfoldable pub is_followed : List ℕ → ℕ → Bool
is_followed s a = not (eq_z (run (find_start_code (pos 0)) s a).value (negsuc 0)) || has_ended s a
