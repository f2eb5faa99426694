-- A line on the copy of the variables: the output's room is lent of the fields' image, and what stands there is delivered.
use Prim.Native.Nat.{ℕ, ◌≤◌}
use native.Mathlib.Omega.{arith}
use mathlib.Core.Path.{◌≡◌, refl, sym, ap, ◌∙◌, subst}
use mathlib.Core.Bool.{Bool, true, false, ◌&&◌}
use mathlib.Core.List.{◌++◌}
use mathlib.Core.Option.{some}
use lib.Dec.{leb}
use lib.ListN.{length, take, drop, length-append}
use lib.Seq.{length-take-le, take-append-le}
use borrow.Author.Tests.{leb-true, leb-false}
use Rattle.stages.specs.Numbers.{image_limit, line_limit, output_room}
use Rattle.stages.specs.Bytes.{Text}
use Rattle.stages.specs.Outcome.{Placed, refused_at, demands_at, done_at, ◌then◌, pick}
use Rattle.stages.specs.Images.{Pairs, held, held_texts, is_some, image, fields_of}
use Rattle.quote.proofs.Answers.{fields_here}
use Rattle.stages.specs.Quote.{quoted_line}
use Rattle.stages.specs.Line.{Fields}
use Rattle.stages.specs.Call.{Quoting, over, or_refused, quoted_in, quoting, quoter}
use Rattle.stages.proofs.Rooms.{over_front}
use Rattle.std.specs.Prelude.{Result, Ok, Err}
use Rattle.quote.specs.Answers.{refusal_of, quoting_of}
use Rattle.quote.specs.declared.QuoteError.{QuoteError}
use Rattle.quote.specs.declared.QuoteError.TheVariants.{Malformed, NoRoom}
use Rattle.table_store.specs.Holding.{Holds}
use Rattle.table.specs.Around.{among}
use Rattle.expand_line.specs.Answers.{line_outcome, LineReady, IsLine, LineStops}
use Rattle.expand_add.specs.declared.answers.Stop.{Stop}
use Rattle.expand_add.specs.declared.answers.Stop.TheVariants.{Refused, Demanded}
use Rattle.expand_add.specs.declared.answers.LineStop.{LineStop}
use Rattle.call_check.specs.Calls.{room_of, output_of}
use Rattle.call_check.specs.Checks.{room_in}
use Rattle.call_check.specs.declared.Job.{Job}
use Rattle.call_check.specs.declared.Job.TheVariants.{Expander, Normaliser}
use Rattle.call_deliver.specs.Hands.{writing_of}
use Rattle.call_run.specs.Drafts.{worded, draft, Drafting, DraftStops, DraftOf}
use Rattle.call_run.specs.declared.Delivered.{Delivered}

-- the lesser of the job's room and 8,192
lesser_low : (n : ℕ) (x : Bool) → leb n image_limit ≡ x → (pick x n image_limit ≤ image_limit) × (pick x n image_limit ≤ n)
lesser_low n true e = (leb-true n image_limit e, omega arith)
lesser_low n false e = (omega arith, omega (arith, leb-false n image_limit e))

-- what is written is refused with 21, or it is a text
data Written : Placed Text → Type 0 where
  full : Written (refused_at output_room 0)
  fine : {t : Text} → Written (done_at t)

quoted_written : (out : ℕ) (l : Fields) (x : Bool) → (leb (length (quoted_line l)) line_limit && leb (length (quoted_line l)) out) ≡ x → Written
    (quoted_in out l)
unfolding quoted_in
quoted_written out l true e = rw e fine
quoted_written out l false e = rw e full

output_written : (job : Job) (out : ℕ) (l : Fields) → Written (output_of job out l)
output_written Expander out l = fine
output_written Normaliser out l = quoted_written out l (leb (length (quoted_line l)) line_limit && leb (length (quoted_line l)) out) refl

-- the fields' image is written as the stage writes the fields
writing_is : (job : Job) (l : Fields) (out : Text) → fields_of (image l) ≡ some l → writing_of job (image l) out ≡ quoting out
    (output_of job (length out) l)
unfolding quoter or_refused
writing_is Expander l out e = refl
writing_is Normaliser l out e = rw e

-- the code's answer by the quoter's
abbrev pub delivered_as : Result ℕ QuoteError → ℕ → Result Delivered LineStop
delivered_as (Ok n) left = Ok (record { out_len = n; vars_used = left })
delivered_as (Err e) left = Err (record { stop = Refused (refusal_of e); place = 0 })

-- what is written, by the stage's numbers: 0 and 21 alone can come
module _ {room left : ℕ} {copy : Text} (w : Holds room copy left) (work old out : Text) where
  by_written : (o : Placed Text) → Written o → (q : Result ℕ QuoteError) → quoting_of q out ≡ quoting old o
      → DraftOf room (o then λ t. done_at (t, held (take left copy))) copy work old out (delivered_as q left)
  unfolding quoting
  by_written (refused_at n p) full (Ok m) e = absurd (omega (arith, ap (λ (x : Quoting). x.number) e))
  by_written (refused_at n p) full (Err NoRoom) e = (refl, ap (λ (x : Quoting). x.out) e)
  by_written (refused_at n p) full (Err Malformed) e = absurd (omega (arith, ap (λ (x : Quoting). x.number) e))
  by_written (demands_at n p) w q e = elim w [ ]
  by_written (done_at t) fine (Ok m) e =
      record { written = t; is = refl; long = ap (λ (x : Quoting). x.out_length) e; stands = ap (λ (x : Quoting). x.out) e; holds = w }
  by_written (done_at t) fine (Err NoRoom) e = absurd (omega (arith, ap (λ (x : Quoting). x.number) e))
  by_written (done_at t) fine (Err Malformed) e = absurd (omega (arith, ap (λ (x : Quoting). x.number) e))

module _ {job : Job} {room used : ℕ} {shouts : Bool} {text copy houses params paths work : Text} (out : Text)
    (p : Drafting job room shouts used text copy houses params paths work (length out)) (images : Text) (li : length images ≡ image_limit) (size : ℕ)
    (e : size ≡ room_in job (length out)) where
  abbrev lent : Text
  lent = take size images

  room_low : (size ≤ image_limit) × (size ≤ room_of job (length out))
  room_low =
      let k = lesser_low (room_of job (length out)) (leb (room_of job (length out)) image_limit) refl in
      (omega (arith, e, k.0), omega (arith, e, k.1))

  pub size_within : size ≤ length images
  size_within = omega (arith, room_low.0, li)

  lent_long : length lent ≡ size
  lent_long = length-take-le size images size_within

  pub line_ready : LineReady text copy used room houses params paths work lent
  line_ready =
      record {
        words = p.words;
        read = p.read;
        clean = p.clean;
        holds = p.holds;
        housed = p.housed;
        handed = p.numbered;
        listed = p.listed;
        area = p.area;
        byte = omega (arith, lent_long, e, p.byte);
        few = omega (arith, lent_long, room_low.0);
      }

  -- what the line gives, as the contract has it and as the loop over words has it
  abbrev outside : Placed (Fields × Pairs)
  outside = worded job room shouts used text copy houses params paths (length out)

  abbrev inside : Placed (Fields × Pairs)
  inside = line_outcome (among room shouts houses params paths (length lent)) text (held (take used copy))

  both : outside ≡ inside
  both = ap (λ (n : ℕ). line_outcome (among room shouts houses params paths n) text (held (take used copy))) (sym (lent_long ∙ e))

  module _ (work₁ : Text) where
    stopped : (stop : Stop) (place : ℕ) → LineStops inside work₁ stop place → DraftStops (draft job (length out) outside) work₁ out out stop place
    stopped (Refused e) place h = (ap (draft job (length out)) (both ∙ h), refl)
    stopped (Demanded at len) place d =
        record { message = d.message; is = ap (draft job (length out)) (both ∙ d.is); waits = d.waits; kept = refl }

    pub line_stopped : (e : LineStop) → LineStops inside work₁ e.stop e.place → DraftStops (draft job (length out) outside) work₁ out out e.stop e.place
    line_stopped e h = stopped e.stop e.place h

  module _ (copy₂ work₁ image₁ : Text) (same : length image₁ ≡ length lent) where
    module _ {len left : ℕ} (made : IsLine room inside copy₂ lent image₁ len left) where
      abbrev whole : Text
      whole = image₁ ++ drop size images

      len_low : len ≤ length image₁
      len_low = omega (arith, made.fits, same)

      pub len_within : len ≤ length whole
      len_within = simp length-append (omega (arith, len_low))

      image_there : take len whole ≡ image made.fields
      image_there =
          take-append-le len image₁ (drop size images) len_low
          ∙ ap (take len) made.stands
          ∙ ap (λ (n : ℕ). take n (over (image made.fields) lent)) made.long
          ∙ over_front (image made.fields) lent

      outside_done : outside ≡ done_at (made.fields, held (take left copy₂))
      outside_done = both ∙ made.is

      pub deliver_ready : (length (take len whole) ≤ room_of job (length out)) × (fields_of (take len whole) ≡ some (held_texts (take len whole)))
      deliver_ready = (
        omega (arith, length-take-le len whole len_within, made.fits, lent_long, room_low.1),
        fields_here (take len whole) (ap is_some (ap fields_of image_there ∙ p.again made.fields (held (take left copy₂)) outside_done)),
      )

      pub line_delivered : (out₁ : Text) (s : Result ℕ QuoteError) → quoting_of s out₁ ≡ writing_of job (take len whole) out
          → DraftOf room (draft job (length out) outside) copy₂ work₁ out out₁ (delivered_as s left)
      line_delivered out₁ s w =
          subst (λ (o : Placed (Text × Pairs)). DraftOf room o copy₂ work₁ out out₁ (delivered_as s left))
          (sym (ap (draft job (length out)) outside_done))
          (by_written made.holds work₁ out out₁ (output_of job (length out) made.fields) (output_written job (length out) made.fields) s
          (w
          ∙ ap (λ (t : Text). writing_of job t out) image_there
          ∙ writing_is job made.fields out (p.again made.fields (held (take left copy₂)) outside_done)))
