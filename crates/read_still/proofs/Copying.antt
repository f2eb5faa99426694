-- What the loop that copies a word holds: what was said so far stands at the area's front.
use Prim.Native.Nat.{ℕ, ◌+◌, ◌≤◌, ◌<◌}
use native.Mathlib.Omega.{arith}
use mathlib.Core.Path.{◌≡◌, refl, sym, ap, ◌∙◌}
use mathlib.Core.Bool.{true, false}
use mathlib.Core.List.{[], ◌++◌, append_assoc}
use mathlib.Core.Option.{none, some}
use lib.ListN.{length, take, drop, get_or, length-append}
use lib.Seq.{drop-drop, take_at, drop_at}
use Rattle.stages.specs.Bytes.{Text, part, is_blank}
use Rattle.stages.specs.Call.{over}
use Rattle.text.specs.Classes.{Runs}
use Rattle.text.specs.declared.Class.TheVariants.{BareByte}
use Rattle.text.proofs.Parts.{part_length}
use Rattle.read_still.specs.Walks.{quoted_in, Walk, EnclosedAs, PutsBehind, Leaves}
use Rattle.read_still.proofs.Walking.{Walked, walk_starts, walk_ends, walk_stops, walk_fails, walk_goes}

-- a text put behind those that stand at the front
module _ (y t old : Text) where
  back : drop (length y + length t) (over y old) ≡ drop (length y + length t) old
  unfolding over
  back =
      sym (drop-drop (length t) (length y) (over y old)) ∙ ap (drop (length t)) (drop_at y (drop (length y) old) (length y) refl)
      ∙ drop-drop (length t) (length y) old

  over_more : take (length y) (over y old) ++ (t ++ drop (length y + length t) (over y old)) ≡ over (y ++ t) old
  unfolding over
  over_more =
      ap {A = Text} (λ u. u ++ (t ++ drop (length y + length t) (over y old))) (take_at y (drop (length y) old) (length y) refl)
      ∙ ap {A = Text} (λ u. y ++ (t ++ u)) back
      ∙ sym (append_assoc y t (drop (length y + length t) old)) ∙ ap (λ (n : ℕ). (y ++ t) ++ drop n old) (sym (length-append y t))

pub record Copied (line : Text) (at : ℕ) (old : Text) (i : ℕ) (area : Text) (n : ℕ) : Type 0 where
  pub said : Text
  pub walked : Walked line at i said
  pub counts : n ≡ length said
  pub is : area ≡ over said old
  pub lent : length line ≤ at + length old

-- .. with the bare bytes behind it
pub record Ran (line : Text) (at : ℕ) (old : Text) (i run : ℕ) (area : Text) (n : ℕ) : Type 0 where
  pub said : Text
  pub walked : Walked line at i said
  pub runs : Runs line i BareByte run
  pub counts : n ≡ length (said ++ part line i run)
  pub is : area ≡ over (said ++ part line i run) old
  pub lent : length line ≤ at + length old

module _ {line : Text} {at : ℕ} {old : Text} where
  pub copy_starts : at ≤ length line → length line ≤ at + length old → Copied line at old at old 0
  unfolding over
  copy_starts h l = record { said = []; walked = walk_starts line at h; counts = refl; is = refl; lent = l }

  module _ {i n : ℕ} {area : Text} (c : Copied line at old i area n) {run : ℕ} (r : Runs line i BareByte run) where
    pub copy_runs : {left : Text} {m : ℕ} → PutsBehind n (part line i run) area left m → Ran line at old i run left m
    copy_runs p = record {
      said = c.said;
      walked = c.walked;
      runs = r;
      counts = p.counts ∙ ap (λ (k : ℕ). k + length (part line i run)) c.counts ∙ sym (length-append c.said (part line i run));
      is = (rw (c.counts, c.is) at p.is) ∙ over_more c.said (part line i run) old;
      lent = c.lent;
    }

  module _ {i run n : ℕ} {area : Text} (c : Ran line at old i run area n) where
    abbrev all : Text
    all = c.said ++ part line i run

    long : length all + at ≤ run
    long =
        let k = part_length line i run c.runs.onward c.runs.within in
        simp length-append (omega (arith, k, c.walked.few, c.runs.onward))

    leaves : Walk (drop at line) (some (all, drop run line)) → Leaves line at old area n run
    leaves w = record {
      text = all;
      walk = w;
      counts = c.counts;
      is = c.is;
      onward = omega (arith, long);
      within = c.runs.within;
      few = omega (arith, long, c.counts, c.lent, c.runs.within);
    }

    pub leaves_line : length line ≤ run → Leaves line at old area n run
    leaves_line h = leaves (walk_ends c.walked c.runs h)

    module _ (l : run < length line) where
      pub leaves_blank : is_blank (get_or line run 0) ≡ true → Leaves line at old area n run
      leaves_blank e = leaves (walk_stops c.walked c.runs l e)

      module _ (e' : is_blank (get_or line run 0) ≡ false) where
        pub leaves_none : quoted_in (drop run line) ≡ none → Walk (drop at line) none
        leaves_none q = walk_fails c.walked c.runs l e' q

        module _ {from to next : ℕ} (q : EnclosedAs line (run + 1) (quoted_in (drop run line)) from to next) where
          pub copy_goes : {left : Text} {m : ℕ} → PutsBehind n (part line from to) area left m → Copied line at old next left m
          copy_goes p =
              let z = part line from to in
              let e : (c.said ++ part line i run) ++ z ≡ c.said ++ (part line i run ++ z) = append_assoc c.said (part line i run) z in
              record {
                said = c.said ++ (part line i run ++ z);
                walked = walk_goes c.walked c.runs l e' q;
                counts = p.counts ∙ ap (λ (k : ℕ). k + length z) c.counts ∙ sym (length-append all z) ∙ ap length e;
                is = (rw (c.counts, c.is) at p.is) ∙ over_more all z old ∙ ap {A = Text} (λ u. over u old) e;
                lent = c.lent;
              }
