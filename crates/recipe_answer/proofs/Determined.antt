-- The contracts determine the answer, what stands in the words' buffer, the line's buffer, the work area and the variables: two outcomes that one allows for
-- one input are equal.
use Prim.Native.Nat.{ℕ}
use mathlib.Core.Path.{◌≡◌, sym, ap, ◌∙◌}
use mathlib.Core.List.{List}
use Rattle.stages.specs.Bytes.{Text}
use Rattle.stages.specs.Program.{Variables}
use Rattle.stages.proofs.Bools.{clash, some_same}
use Rattle.text.proofs.Determined.{one_answer}
use Rattle.text.proofs.Filling.{puts_once}
use Rattle.recipe_cut.specs.Lines.{last_line}
use Rattle.recipe_answer.specs.Says.{variables, Says}
use Rattle.recipe_answer.specs.Turns.{Buffers, Turned, stays, tells, area_after, area_after_lines}
use Rattle.recipe_answer.specs.declared.Said.{Said}
use Rattle.recipe_answer.specs.declared.Carried.{Carried}
use Rattle.recipe_answer.specs.declared.Turn.{Turn}
use Rattle.recipe_answer.specs.declared.Turn.TheVariants.{Open, Answered}

-- what is said of lines
says_determined : (homes paths params : Text) (v : Variables) (n : ℕ) (lines : List Text) (old left left' vars vars' : Text) (r s : Said)
    → Says homes paths params v n lines old left vars r → Says homes paths params v n lines old left' vars' s → (r ≡ s) × (left ≡ left') × (vars ≡ vars')
says_determined homes paths params v n lines old left left' vars vars' r s g h =
    let e : variables vars r.vars_used v.shouts ≡ variables vars' s.vars_used v.shouts = one_answer g.after h.after in
    let l : r.len ≡ s.len = one_answer g.words h.words in
    let t : r.told ≡ s.told = one_answer g.messages h.messages in
    let u : r.vars_used ≡ s.vars_used = ap (λ (w : Variables). w.vars_used) e in (
      ap (λ (k : ℕ). record { len = k; told = r.told; vars_used = r.vars_used }) l
          ∙ ap (λ (k : ℕ). record { len = s.len; told = k; vars_used = r.vars_used }) t
          ∙ ap (λ (k : ℕ). record { len = s.len; told = s.told; vars_used = k }) u,
      one_answer g.leaves h.leaves,
      ap (λ (w : Variables). w.buffer) e,
    )

pub answer_last_determined : (homes paths params : Text) (v : Variables) (n : ℕ) (kept old left left' vars vars' work area area' : Text) (r s : Said)
    → Says homes paths params v n (last_line kept) old left vars r × (area ≡ area_after_lines (last_line kept) work)
    → Says homes paths params v n (last_line kept) old left' vars' s × (area' ≡ area_after_lines (last_line kept) work)
    → (r ≡ s) × (left ≡ left') × (vars ≡ vars') × (area ≡ area')
answer_last_determined homes paths params v n kept old left left' vars vars' work area area' r s g h =
    let p = says_determined homes paths params v n (last_line kept) old left left' vars vars' r s g.0 h.0 in
    (p.0, p.1, p.2, one_answer g.1 h.1)

module _ (homes paths params : Text) (k : Carried) (block : Text) (at : ℕ) (b : Buffers) where
  turned_determined : (c d : Buffers) (r s : Turn) → Turned homes paths params k block at b c r → Turned homes paths params k block at b d s
      → (r ≡ s) × (c ≡ d)
  turned_determined c d (Open n) (Open m) (stays g) (stays h) =
      let p : (n ≡ m) × (c.line ≡ d.line) = puts_once g.keeps h.keeps in
      (ap Open p.0, rw (p.1, one_answer g.same_vars h.same_vars, one_answer g.same_said h.same_said))
  turned_determined c d (Open n) (Answered len told used next) (stays g) (tells h) = absurd (clash (sym g.runs_out ∙ h.ends))
  turned_determined c d (Answered len told used next) (Open n) (tells g) (stays h) = absurd (clash (sym h.runs_out ∙ g.ends))
  turned_determined c d (Answered len told used next) (Answered len' told' used' next') (tells g) (tells h) =
      let n : next ≡ next' = some_same (sym g.ends ∙ h.ends) in
      let v : Variables = variables b.vars k.vars_used k.shouts in
      let p = says_determined homes paths params v k.line _ b.said c.said d.said c.vars d.vars _ _ g.says h.says in (
        ap (λ (s : Said). Answered s.len s.told s.vars_used next) p.0 ∙ ap (Answered len' told' used') n,
        rw (one_answer g.keeps h.keeps, p.2, p.1),
      )

  pub answer_next_determined : (c d : Buffers) (work area area' : Text) (r s : Turn)
      → Turned homes paths params k block at b c r × (area ≡ area_after r work) → Turned homes paths params k block at b d s × (area' ≡ area_after s work)
      → (r ≡ s) × (c ≡ d) × (area ≡ area')
  answer_next_determined c d work area area' r s g h =
      let p = turned_determined c d r s g.0 h.0 in
      (p.0, p.1, g.1 ∙ ap (λ (t : Turn). area_after t work) p.0 ∙ sym h.1)
