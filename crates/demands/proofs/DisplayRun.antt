-- Order of display (11172-2, 2.4.4; DIFFERENCES A.7): the calls that follow an opening show the pictures that they read in the order of display, but for the
-- one that waits at the end, which is shown only if it is flushed. Assumed: the stream is one of bytes, and each picture that is read is decoded
-- (RULES 8.4).
use mathlib.Core.Path.{◌≡◌, refl, sym, ap, ap₂, subst, ◌∙◌}
use mathlib.Core.Bool.{false}
use mathlib.Core.List.{List, [], ◌++◌, append_assoc, append-nil}
use mathlib.Core.Logic.{◌⊎◌, inl, inr}
use Prim.Native.Nat.{ℕ, ◌≤◌, ◌<◌}
use lib.Dec.{leb}
use lib.ListN.{length, get_or}
use Rattle.decoder.specs.declared.answers.{Opening.Opening, Opened.Opened}
use Rattle.playback.specs.declared.outcome.Outcome.{Outcome}
use Rattle.decoder.specs.Record.{CallResult, call_result}
use Rattle.decoder.specs.Opening.{opening}
use Rattle.decoder.specs.Run.{CallState, call_state, state_after}
use Rattle.decoder.specs.Calls.{Opens}
use Rattle.demands.specs.Display.{CodedPicture, displayed, waiting, display_order, AllDecoded, decode_reads, shown_by, CallsOutput, none, and_then}
use Rattle.demands.proofs.RunCall.{accepted-keeps}
use Rattle.demands.proofs.Run.{by_length, opening-leaves, long-call}
use Rattle.demands.proofs.Display.{waiting-on, displayed-on, decoded-first, decoded-rest}
use Rattle.demands.proofs.DisplayStep.{none-held}
use Rattle.demands.proofs.DisplayCall.{Over, Phase, no_header, under_way, CallShows, over-call, call-shows}
use Rattle.bits.specs.Bounds.{longest_stream}

abbrev Frames : Type 0
Frames = List (List ℕ)

-- the pictures cs are read while h waits, and ps are shown: the one that waits at the end is missing, or it is flushed
abbrev InOrder : Frames → Frames → List CodedPicture → Type 0
InOrder h ps cs = (ps ≡ displayed h cs) ⊎ (ps ≡ displayed h cs ++ waiting h cs)

-- ---- a stream that is not too long

module _ (s : List ℕ) (short : length s ≤ longest_stream) (bytes : (k : ℕ) → get_or s k 0 < 256) where
  over-run : {x : CallState} {ps : Frames} {cs : List CodedPicture} {y : CallState} → Over s x → CallsOutput s x ps cs y → (ps ≡ []) × (cs ≡ [])
  over-run k none = (refl, refl)
  over-run {x} k (and_then {r = r} {m = m} {ps = ps} {cs = cs} gave c) =
      let o = over-call s short bytes x k in
      let shown : shown_by r.outcome r.decoder m ≡ [] = ap (λ (q : CallResult Outcome). shown_by q.answer q.decoder q.store) gave ∙ o.0 in
      let i = over-run (subst (λ (q : CallResult Outcome). Over s (state_after q)) (sym gave) o.2) c in
      (ap₂ (λ (a b : Frames). a ++ b) shown i.0, ap₂ (λ (a b : List CodedPicture). a ++ b) o.1 i.1)

  -- the pictures c first, in order, and then cs
  in_order : (h : Frames) (p ps : Frames) (c cs : List CodedPicture) → p ≡ displayed h c → InOrder (waiting h c) ps cs → InOrder h (p ++ ps) (c ++ cs)
  in_order h p ps c cs e (inl f) = inl (ap₂ (λ (a b : Frames). a ++ b) e f ∙ sym (displayed-on h c cs))
  in_order h p ps c cs e (inr f) =
      inr (ap₂ (λ (a b : Frames). a ++ b) e f ∙ sym (append_assoc (displayed h c) (displayed (waiting h c) cs) (waiting (waiting h c) cs))
      ∙ ap₂ (λ (a b : Frames). a ++ b) (sym (displayed-on h c cs)) (sym (waiting-on h c cs)))

  -- a flush, and nothing behind it
  flush-last : (h : Frames) (p ps : Frames) (c cs : List CodedPicture) → p ≡ displayed h c ++ waiting h c → (ps ≡ []) × (cs ≡ [])
      → InOrder h (p ++ ps) (c ++ cs)
  flush-last h p ps c cs e n =
      inr (ap (λ (a : Frames). p ++ a) n.0 ∙ append-nil p ∙ e
      ∙ ap (λ (a : List CodedPicture). displayed h a ++ waiting h a) (sym (ap (λ (a : List CodedPicture). c ++ a) n.1 ∙ append-nil c)))

  run-shows : {x : CallState} (h : Frames) {ps : Frames} {cs : List CodedPicture} {y : CallState} → Phase s x h → CallsOutput s x ps cs y → AllDecoded cs
      → InOrder h ps cs
  unfolding displayed
  run-shows h p none = λ q. inl refl
  run-shows {x} h p (and_then {r = r} {m = m} {ps = ps} {cs = cs} gave k) = λ q.
      let c = decode_reads x.decoder s x.store in
      go (subst (CallShows s h c) (sym gave) (call-shows s short bytes x h p (decoded-first c cs q)))
      (λ f. run-shows (waiting h c) f k (decoded-rest c cs q)) (λ o. over-run o k)
    where
      go : CallShows s h (decode_reads x.decoder s x.store) (call_result r.outcome r.decoder m)
          → (Phase s (call_state r.decoder m) (waiting h (decode_reads x.decoder s x.store))
          → InOrder (waiting h (decode_reads x.decoder s x.store)) ps cs)
          → (Over s (call_state r.decoder m) → (ps ≡ []) × (cs ≡ []))
          → InOrder h (shown_by r.outcome r.decoder m ++ ps) (decode_reads x.decoder s x.store ++ cs)
      go (inl w) f o = in_order h (shown_by r.outcome r.decoder m) ps (decode_reads x.decoder s x.store) cs w.0 (f w.1)
      go (inr w) f o = flush-last h (shown_by r.outcome r.decoder m) ps (decode_reads x.decoder s x.store) cs w.0 (o w.1)

  -- what opening leaves: nothing waits
  abbrev Begins : CallResult Opening → Type 0
  Begins r = Phase s (call_state r.decoder r.store) []

  opening-begins : (l : List ℕ) → Begins (opening s l)
  opening-begins =
      opening-leaves s short (λ x. Phase s x []) (λ x l h. no_header h refl)
      (λ x l h e. under_way (accepted-keeps s short l h e) (none-held h.has_reference_frame))

-- ---- a stream that is too long: nothing is read, and nothing shown

module _ (s : List ℕ) (long : leb (length s) longest_stream ≡ false) where
  long-shows : {x : CallState} {ps : Frames} {cs : List CodedPicture} {y : CallState} → CallsOutput s x ps cs y → (ps ≡ []) × (cs ≡ [])
  unfolding decode_reads
  long-shows none = (refl, refl)
  long-shows {x} (and_then {r = r} {m = m} gave c) =
      let i = long-shows c in
      let shown = ap (λ (q : CallResult Outcome). shown_by q.answer q.decoder q.store) (gave ∙ long-call s [] long x) in
      (ap₂ (λ (a b : Frames). a ++ b) shown i.0, rw long i.1)

-- ---- every stream

module _ (s l : List ℕ) (r : Opened) (m : List ℕ) (gave : Opens s l r m) (bytes : (k : ℕ) → get_or s k 0 < 256) (ps : Frames) (cs : List CodedPicture)
    (y : CallState)
    (calls : CallsOutput s (call_state r.decoder m) ps cs y) (decoded : AllDecoded cs) where
  -- what is shown is the order of display, or lacks of it only the reference picture that waits at the end
  pub display-order : (ps ++ waiting [] cs ≡ display_order cs) ⊎ (ps ≡ display_order cs)
  unfolding displayed waiting
  display-order =
      by_length s _
      (λ h. order (run-shows s h bytes [] (subst (λ (q : CallResult Opening). Begins s h bytes q) (sym gave) (opening-begins s h bytes l)) calls decoded))
      (λ h. let n = long-shows s h calls in inr (n.0 ∙ ap display_order (sym n.1)))
    where
      order : InOrder [] ps cs → (ps ++ waiting [] cs ≡ display_order cs) ⊎ (ps ≡ display_order cs)
      order (inl e) = inl (ap (λ (a : Frames). a ++ waiting [] cs) e)
      order (inr e) = inr e
