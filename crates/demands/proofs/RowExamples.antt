-- Searches and rows on given streams, by computation: a code inside another one, a 5 with its second try, and for each row an input of which it does not hold.
use mathlib.Core.Path.{◌≡◌, refl, sym, ap, ◌∙◌}
use mathlib.Core.Bool.{true≢false}
use mathlib.Core.List.{List, [], ◌∷◌}
use Prim.Native.Nat.{ℕ, ◌+◌, ◌≤◌}
use native.Mathlib.Omega.{arith}
use lib.IntN.{pos, negsuc}
use lib.ListN.{replicate, drop}
use Rattle.laws.specs.Loops.{iterate}
use Rattle.laws.specs.Each.{all_below}
use Rattle.bits.specs.Bits.{bit_at, bits_at, read_at, after_read, code_prefix, code_from, found}
use Rattle.bits.specs.Programs.{run, bind, loop, find_step, find_start_code}
use Rattle.codes.specs.Matrices.{intra_quant_matrix, non_intra_quant_matrix, premultiplier_matrix, bounded}
use Rattle.header.specs.Store.{cleared}
use Rattle.header.specs.Sequences.{matrix, size, rest}
use Rattle.playback.specs.declared.outcome.Shown.{Shown}
use Rattle.playback.specs.declared.outcome.Outcome.TheVariants as H
use Rattle.playback.specs.State.{fresh_state, possible_display}
use Rattle.playback.specs.Search.{ensure_start_code, is_followed}
use Rattle.playback.specs.Display.{flushed}
use Rattle.playback.specs.Steps.{LoopEnd, searched, picture_step, pictures}
use Rattle.decoder.specs.declared.record.Decoder.{Decoder}
use Rattle.decoder.specs.declared.answers.Opened.{Opened}
use Rattle.decoder.specs.declared.answers.Opening.TheVariants as O
use Rattle.decoder.specs.Record.{fresh, position, with_search_result, with_stop}
use Rattle.decoder.specs.Answers.{opening_error_code, decode_error_code}
use Rattle.decoder.specs.Possible.{possible}
use Rattle.decoder.specs.Headers.{find_sequence, accepted, check_size, check_header, check_store}
use Rattle.decoder.specs.Opening.{opened, opening_from, opening}
use Rattle.decoder.specs.Decode.{call_result_of, check_header_and_store, start_state, after_checks, decode}
use Rattle.demands.specs.Checks.{IsFirstFailing, with_header, opening_checks, decode_checks}
use Rattle.demands.specs.After.{AfterOpening, AfterDecode}
use Rattle.demands.specs.AfterErrors.{AfterError3, AfterError4, AfterError5, TriesAgain, AfterError6, AfterError7, AfterError8Or9}
use Rattle.demands.specs.Outputs.{OpeningLeaves, DecodeOutputs}
use Rattle.demands.proofs.Checks.{first-is, opening-checks, decode-checks}
use Rattle.demands.proofs.OneResult.{row-3, row-4, end_of, end_outcome, output-end}
use Rattle.demands.proofs.Demand1.{open-3, open-4}

-- ---- searches

-- RULES 1.11, DIFFERENCES B.17: the last byte of a picture start code is the first of a sequence start code
abbrev inside : List ℕ
inside = 0x00 ∷ 0x00 ∷ 0x01 ∷ 0x00 ∷ 0x00 ∷ 0x01 ∷ 0xb3 ∷ 0x10 ∷ 0x10 ∷ 0x10 ∷ 0x10 ∷ 0x10 ∷ []

-- RULES Q5, O.5: behind the code a size of 0 × 0, then a header of 16 × 16 samples without its code
abbrev twice : List ℕ
twice =
    0x00 ∷ 0x00 ∷ 0x01 ∷ 0xb3 ∷ 0x00 ∷ 0x00 ∷ 0x00 ∷
    (0x01 ∷ 0x00 ∷ 0x10 ∷ 0x13 ∷ 0x00 ∷ 0x00 ∷ 0x00 ∷ 0x00 ∷ replicate 128 0xff)

-- no start code; and two of a sequence
abbrev no-codes : List ℕ
no-codes = replicate 6 0xff

abbrev two-codes : List ℕ
two-codes = 0x00 ∷ 0x00 ∷ 0x01 ∷ 0xb3 ∷ 0x00 ∷ 0x00 ∷ 0x01 ∷ 0xb3 ∷ 0x00 ∷ []

abbrev by-opening : List ℕ → Decoder
by-opening s = (opening s []).decoder

pub record Searches : Type 0 where
  -- the code inside the other one is not met: the search ends four bytes before the end
  pub inside_missed : (opening inside []).answer ≡ O.Refused 3
  pub inside-end : position (by-opening inside) ≡ 64
  -- met without the other one, it is found
  pub alone-found : (opening (drop 3 inside) []).answer ≡ O.Refused 4
  pub alone-end : position (by-opening (drop 3 inside)) ≡ 32
  -- 5, and 24 bits further
  pub first_try : (opening twice []).answer ≡ O.Refused 5
  pub first-end : position (by-opening twice) ≡ 56
  -- the next call reads 16 × 16 there, and comes to question 6
  pub second-width : (with_header twice (by-opening twice)).sequence.width ≡ 16
  pub second-height : (with_header twice (by-opening twice)).sequence.height ≡ 16
  pub second_try : (decode (by-opening twice) twice []).answer ≡ H.Refused 6
  -- none, and the first of two
  pub none_missed : (opening no-codes []).answer ≡ O.Refused 3
  pub none_end : position (by-opening no-codes) ≡ 16
  pub two-found : (opening two-codes []).answer ≡ O.Refused 4
  pub two-end : position (by-opening two-codes) ≡ 32
  pub two-place : position (find_sequence two-codes fresh) ≡ 32
  -- nothing at all
  pub empty-opening : (opening [] []).answer ≡ O.Refused 3
  pub empty-decode : (decode fresh [] []).answer ≡ H.Refused 3
  pub empty-end : end_outcome (end_of fresh [] []) ≡ H.Refused 7

pub searches : Searches
unfolding iterate all_below bit_at bits_at read_at after_read code_prefix code_from found run bind loop find_step find_start_code
    intra_quant_matrix non_intra_quant_matrix premultiplier_matrix bounded fresh fresh_state possible_display cleared possible
    matrix size rest find_sequence accepted
    check_size check_header check_store opened opening_from opening ensure_start_code is_followed flushed searched picture_step pictures call_result_of
    check_header_and_store
    start_state after_checks decode
searches = record {
  inside_missed = refl;
  inside-end = refl;
  alone-found = refl;
  alone-end = refl;
  first_try = refl;
  first-end = refl;
  second-width = refl;
  second-height = refl;
  second_try = refl;
  none_missed = refl;
  none_end = refl;
  two-found = refl;
  two-end = refl;
  two-place = refl;
  empty-opening = refl;
  empty-decode = refl;
  empty-end = refl;
}

-- ---- rows

-- what `open` gives
abbrev given : List ℕ → Opened
given s = record { decoder = by-opening s; answer = (opening s []).answer }

-- RULES Q3: the search does not end at length - 3
pub not-row-3 : AfterError3 no-codes fresh (with_search_result (negsuc 0) 24 fresh) → ⊥
not-row-3 r =
    let k = open-3 no-codes [] (given no-codes) (opening no-codes []).store refl searches.none_missed in
    let e : ◌≡◌ {A = ℕ} 24 16 = ap position (row-3 r k) ∙ searches.none_end in omega arith

-- RULES Q4: nor behind the second of two headers
pub not-row-4 : AfterError4 two-codes fresh (with_search_result (pos 0xb3) 64 fresh) → ⊥
not-row-4 r =
    let k = open-4 two-codes [] (given two-codes) (opening two-codes []).store refl searches.two-found in
    let e : ◌≡◌ {A = ℕ} 64 32 = ap position (row-4 r k) ∙ searches.two-end in omega arith

-- RULES Q5: fewer than 1,088 bits are left
pub not-row-5 : (x : Decoder) → AfterError5 two-codes fresh x → ⊥
not-row-5 x r = let h : position r.at_code + 1088 ≤ 72 = r.bits in omega arith

pub not_tries-again : TriesAgain two-codes fresh → ⊥
unfolding fresh fresh_state
not_tries-again r = let e : ◌≡◌ {A = ℕ} 32 0 = sym searches.two-place ∙ ap position r.still in omega arith

-- the first "no" of a hand-out with nothing is 3, and of an opening
only-3 : {n : ℕ} → IsFirstFailing n (decode_checks fresh [] []) → n ≡ 3
only-3 k = sym (first-is (decode_checks fresh [] []) k) ∙ sym (decode-checks fresh [] []) ∙ ap decode_error_code searches.empty-decode

opening-only-3 : {n : ℕ} → IsFirstFailing n (opening_checks [] []) → n ≡ 3
opening-only-3 k = sym (first-is (opening_checks [] []) k) ∙ sym (opening-checks [] []) ∙ ap opening_error_code searches.empty-opening

pub not-row-6 : (x : Decoder) (m : List ℕ) → AfterError6 fresh [] [] x m → ⊥
not-row-6 x m r = let e = only-3 r.first in omega arith

pub not-row-7 : (x : Decoder) (m : List ℕ) → AfterError7 fresh [] [] x m → ⊥
not-row-7 x m r = let e = only-3 r.first in omega arith

-- RULES QA: a record with a stop mark decodes nothing, so nothing is written
pub not-row-8-9 : (s l : List ℕ) (n : ℕ) (x : Decoder) (m : List ℕ) → AfterError8Or9 (with_stop 8 fresh) s l n x m → ⊥
not-row-8-9 s l n x m r = let e : ◌≡◌ {A = ℕ} 8 0 = r.mark in omega arith

pub not-after-opening : (x : Decoder) → AfterOpening [] [] 4 x → ⊥
not-after-opening x a = let e = opening-only-3 a.first in omega arith

pub not-after-decode : (x : Decoder) (m : List ℕ) → AfterDecode fresh [] [] 4 x m → ⊥
not-after-decode x m a = let e = only-3 a.first in omega arith

-- RULES O.4: a header is accepted
pub not-opening-leaves : (s l m : List ℕ) → OpeningLeaves s l fresh m → ⊥
unfolding fresh accepted
not-opening-leaves s l m a = true≢false (sym (ap (λ (x : Decoder). x.sequence.has_sequence_header) a.decoder))

pub not-decode-outputs : (i : Shown) (x : Decoder) (m : List ℕ) → DecodeOutputs fresh [] [] i x m → ⊥
not-decode-outputs i x m r =
    let e : ◌≡◌ {A = ℕ} 0 7 = sym (ap (λ (e : LoopEnd). decode_error_code (end_outcome e)) (output-end r)) ∙ ap decode_error_code searches.empty-end in
    omega arith
