-- RULES Q2 of what is shown: what follows from it, and the changes that keep it. Assumes nothing.
use mathlib.Core.Path.{◌≡◌, refl}
use mathlib.Core.Bool.{Bool, true}
use Prim.Native.Nat.{◌+◌, ◌≤◌, ◌<◌}
use native.Mathlib.Omega.{arith}
use borrow.Author.Tests.{leb-true, le-leb}
use Rattle.playback.specs.declared.state.{Clock.Clock, Display.Display, State.State}
use Rattle.playback.specs.State.{most_pictures, frames, fresh_state, possible_display, timed_as, has_reference_frame_as}
use Rattle.playback.specs.Display.{counted}

pub count_of : (v : Display) → possible_display v ≡ true → v.frames_decoded ≤ most_pictures
unfolding possible_display
count_of v p = leb-true v.frames_decoded most_pictures p

pub fresh-possible : possible_display fresh_state.display ≡ true
unfolding possible_display fresh_state
fresh-possible = refl

pub timed-possible : (c : Clock) (v : Display) → possible_display v ≡ true → possible_display (timed_as c v) ≡ true
unfolding possible_display
timed-possible c v p = p

module _ (x : State) (p : possible_display x.display ≡ true) where
  pub held-possible : (b : Bool) → possible_display (has_reference_frame_as b x).display ≡ true
  unfolding possible_display
  held-possible b = p

  -- RULES 8.13: one more picture, of as many as there can be
  pub counted-possible : frames x < most_pictures → possible_display (counted x).display ≡ true
  unfolding possible_display counted
  counted-possible h = le-leb (frames x + 1) most_pictures (omega arith)
