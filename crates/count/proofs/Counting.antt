-- A count while the calls go on.
use mathlib.Core.Path.{◌≡◌, refl, sym, ap, subst, ◌∙◌}
use mathlib.Core.Bool.{false}
use mathlib.Core.List.{List}
use Prim.Native.Nat.{ℕ, suc, ◌+◌, ◌-◌, ◌≤◌, ◌<◌}
use native.Mathlib.Omega.{arith}
use lib.Dec.{leb}
use lib.ListN.{length, get_or}
use Rattle.bits.specs.Bounds.{longest_stream}
use Rattle.bits.specs.Programs.{stream_fuel}
use Rattle.decoder.specs.declared.record.Decoder.{Decoder}
use Rattle.playback.specs.declared.outcome.{Shown.Shown, Outcome.Outcome}
use Rattle.decoder.specs.declared.answers.Opening.{Opening}
use Rattle.decoder.specs.declared.answers.Opening.TheVariants as O
use Rattle.playback.specs.declared.outcome.Outcome.TheVariants as H
use Rattle.decoder.specs.Record.{CallResult, call_result}
use Rattle.decoder.specs.Answers.{result, number, decode_answer, opening_error_code}
use Rattle.decoder.specs.Opening.{opening}
use Rattle.decoder.specs.Decode.{decode}
use Rattle.decoder.specs.Run.{call_state, state_after, pictures_of_outcome}
use Rattle.demands.proofs.RunCall.{Between, call-on, few}
use Rattle.demands.proofs.Run.{by_length, opening-begins}
use Rattle.count.specs.Count.{Counts, counts, count_from, count_of, counts_in}

-- ---- opening

-- RULES Q1: a stream that is too long is refused
long-number : (s l : List ℕ) → leb (length s) longest_stream ≡ false → opening_error_code (opening s l).answer ≡ 1
unfolding opening
long-number s l h = rw h refl

pub ready-short : (s l : List ℕ) → (opening s l).answer ≡ O.Ready → length s ≤ longest_stream
ready-short s l e =
    by_length s _ (λ h. h) (λ h. let z : ◌≡◌ {A = ℕ} 1 0 = sym (long-number s l h) ∙ ap opening_error_code e in let no : ⊥ = omega arith in absurd no)

module _ (s l : List ℕ) (d : Decoder) (m : List ℕ) where
  pub refused-counts : (a : ℕ) → call_result (O.Refused a) d m ≡ opening s l → counts a 0 m ≡ counts_in s l
  unfolding count_of
  refused-counts a e = ap (count_of s) e

  pub ready-counts : call_result O.Ready d m ≡ opening s l → count_from stream_fuel s 0 d m ≡ counts_in s l
  unfolding count_of
  ready-counts e = ap (count_of s) e

-- ---- the calls

-- the count from a call on, which left x
abbrev onward : ℕ → ℕ → List ℕ → CallResult Outcome → Counts
onward k n s x =
    elim (decode_answer x.answer) [ result p ↦ count_from k s (n + 1) x.decoder x.store | number answer ↦ counts answer n x.store ]

onward-is : (k n : ℕ) (s l : List ℕ) (d : Decoder) (x : CallResult Outcome) → x ≡ decode d s l → count_from (suc k) s n d l ≡ onward k n s x
unfolding count_from
onward-is k n s l d x e = ap (onward k n s) (sym e)

-- n pictures are counted from d₀ and l₀ on, and the others follow
pub record Counting (s l₀ : List ℕ) (d₀ : Decoder) (l : List ℕ) (d : Decoder) (n : ℕ) : Type 0 where
  pub short : length s ≤ longest_stream
  pub bytes : (k : ℕ) → get_or s k 0 < 256
  pub run : Between s (call_state d l) n
  pub long : length l ≡ length l₀
  pub whole : count_from (stream_fuel - n) s n d l ≡ count_from stream_fuel s 0 d₀ l₀

module _ {s l₀ : List ℕ} {d₀ : Decoder} {l : List ℕ} {d : Decoder} {n : ℕ} (h : Counting s l₀ d₀ l d n) where
  -- RULES R.1
  pub counting-few : n ≤ 4628198
  counting-few = let x = h.short in let y = few s x h.bytes h.run in omega arith

  more : stream_fuel - n ≡ suc (stream_fuel - (n + 1))
  more = let f = counting-few in omega arith

  following : (x : CallResult Outcome) → x ≡ decode d s l → onward (stream_fuel - (n + 1)) n s x ≡ count_from stream_fuel s 0 d₀ l₀
  following x q = sym (ap (λ (k : ℕ). count_from k s n d l) more ∙ onward-is (stream_fuel - (n + 1)) n s l d x q) ∙ h.whole

  pub counting-end : (a : ℕ) (e : Decoder) (m : List ℕ) → call_result (H.Refused a) e m ≡ decode d s l → counts a n m ≡ count_from stream_fuel s 0 d₀ l₀
  counting-end a e m q = following (call_result (H.Refused a) e m) q

  pub counting-on : (i : Shown) (e : Decoder) (m : List ℕ) → call_result (H.Picture i) e m ≡ decode d s l → length m ≡ length l
      → Counting s l₀ d₀ m e (n + 1)
  counting-on i e m q k = record {
    short = h.short;
    bytes = h.bytes;
    run =
        subst (λ (r : CallResult Outcome). Between s (state_after r) (n + pictures_of_outcome r.answer)) (sym q)
        (call-on s h.short h.bytes h.run).0;
    long = k ∙ h.long;
    whole = following (call_result (H.Picture i) e m) q;
  }

pub counting-first : (s l : List ℕ) (d : Decoder) (m : List ℕ) → ((k : ℕ) → get_or s k 0 < 256) → call_result O.Ready d m ≡ opening s l
    → Counting s m d m d 0
counting-first s l d m b e =
    let h = ready-short s l (ap (λ (x : CallResult Opening). x.answer) (sym e)) in record {
      short = h;
      bytes = b;
      run = subst (λ (x : CallResult Opening). Between s (call_state x.decoder x.store) 0) (sym e) (opening-begins s h b l);
      long = refl;
      whole = refl;
    }
