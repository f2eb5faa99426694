-- Longest runs, as the library counts them and as the stages cut them off a text.
use Rattle.std.proofs.Common.{◌≡◌, ℕ, suc, ◌+◌, ◌-◌, ◌≤◌, ◌<◌, sym, ◌∙◌, ap, Bool, true, false, List, [], ◌∷◌, ◌++◌, length, take, drop, get_or}
use Rattle.std.proofs.Common.{Fits, w8, arith}
use Rattle.std.specs.List.{prefix_len}
use lib.ListN.{length-drop}
use lib.Seq.{take-suc, take_all, get_or-drop, drop-drop}
use Rattle.stages.specs.Bytes.{Text, part, span, longer}
use Rattle.stages.proofs.Bools.{either}
use Rattle.stages.proofs.Texts.{span_more, span_stop}
use Rattle.text.specs.Bits.{has_bit}

-- one byte more of a part
pub part_more : (t : Text) (a e : ℕ) → a ≤ e → e < length t → part t a (e + 1) ≡ part t a e ++ (get_or t e 0 ∷ [])
part_more t a e h k =
    let s : e + 1 - a ≡ suc (e - a) = omega arith in
    let l : e - a < length (drop a t) = omega (arith, length-drop a t) in
    let f : a + (e - a) ≡ e = omega arith in
    rw s (take-suc (drop a t) (e - a) 0 l ∙ ap (λ (b : ℕ). take (e - a) (drop a t) ++ (b ∷ []))
    (get_or-drop a t (e - a) 0 ∙ ap (λ (n : ℕ). get_or t n 0) f))

-- a longest run by another test that says the same of each byte
pub span_prefix : (f p : ℕ → Bool) (s : Text) → ((k : ℕ) → p (get_or s k 0) ≡ f (get_or s k 0)) → span f s ≡ (take (prefix_len p s) s, drop (prefix_len p s) s)
span_prefix f p [] h = span_stop f [] tt
span_prefix f p (b ∷ t) h = either (p b) (passes (span_prefix f p t (λ k. h (suc k)))) fails
  where
    passes : span f t ≡ (take (prefix_len p t) t, drop (prefix_len p t) t) → p b ≡ true
        → span f (b ∷ t) ≡ (take (prefix_len p (b ∷ t)) (b ∷ t), drop (prefix_len p (b ∷ t)) (b ∷ t))
    passes ih e =
        let n : 1 + prefix_len p t ≡ suc (prefix_len p t) = omega arith in
        rw (e, n) (span_more f b t (sym (h 0) ∙ e) ∙ ap (longer b) ih)

    fails : p b ≡ false → span f (b ∷ t) ≡ (take (prefix_len p (b ∷ t)) (b ∷ t), drop (prefix_len p (b ∷ t)) (b ∷ t))
    fails e = rw e (span_stop f (b ∷ t) (sym (h 0) ∙ e))

-- the same from a place of a text on, by the bits of words: `&t[at..]` is looked at
pub span_bits : (f : ℕ → Bool) (words : List ℕ) (t : Text) (at n : ℕ) → ((b : ℕ) → b < 256 → has_bit words b ≡ f b)
    → ((k : ℕ) → Fits w8 (get_or t k 0)) → n ≡ prefix_len (λ b. has_bit words b) (take (length t - at) (drop at t))
    → span f (drop at t) ≡ (part t at (at + n), drop (at + n) t)
span_bits f words t at n h bytes e =
    let m : at + n - at ≡ n = omega arith in
    let l : length (drop at t) ≡ length t - at = length-drop at t in
    let s : take (length t - at) (drop at t) ≡ drop at t = take_all (length t - at) (drop at t) (omega arith) in
    rw m (span_prefix f (λ b. has_bit words b) (drop at t) (λ k. rw (get_or-drop at t k 0) (h (get_or t (at + k) 0) (bytes (at + k)).fits))
    ∙ rw (sym (e ∙ ap (prefix_len (λ b. has_bit words b)) s)) (ap (λ (u : Text). (take n (drop at t), u)) (drop-drop n at t)))
