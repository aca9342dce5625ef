-- By which way a receipt is drawn, and what that says of the hand.
use Rattle.std.proofs.Common.{◌≡◌, ℕ, true, false, true≢false, not, Some, None, sym, ◌∙◌, eqb-true, ⊎_elim, inl, inr}
use Rattle.std.specs.Prelude.{◌&&◌, ◌||◌, ◌==◌, is_none}
use Rattle.std.proofs.lemmas.Bool.{cases_Bool, or_cases}
use Rattle.xf_types.specs.declared.call.Receipt.{Receipt}
use Rattle.xf_types.specs.Moves.{is_moving}
use Rattle.xf_views.specs.declared.hand.Hand.{Hand}
use Rattle.xf_proto.specs.Legality.{is_by_move, is_by_turn, is_by_trial, is_by_slot, is_output, began_even, holds_none, may_draw}
use Rattle.xf_runs.proofs.Flags.{both, off, none-is, other-way}

pub data Way (h : Hand) (r : Receipt) : Type 0 where
  ByTrial : is_by_trial h r ≡ true → Way h r
  ByMove : is_by_trial h r ≡ false → is_by_move h r ≡ true → Way h r
  ByTurn : is_by_trial h r ≡ false → is_by_move h r ≡ false → is_by_turn h r ≡ true → Way h r
  BySlot : is_by_trial h r ≡ false → is_by_move h r ≡ false → is_by_slot h r ≡ true → Way h r

-- what the table asks of a draw with a receipt
pub record MayDraw (n i : ℕ) (h : Hand) (r : Receipt) : Type 0 where
  pub number : r.number ≡ n
  pub worker : r.worker ≡ i
  pub none : h.trial ≡ None
  pub way : Way h r

way-is : (h : Hand) (r : Receipt) → (is_by_move h r || is_by_turn h r || is_by_trial h r || is_by_slot h r) ≡ true → Way h r
way-is h r any = elim (cases_Bool (is_by_trial h r)) [
  | inl trial ↦ ByTrial trial
  | inr other ↦ elim (cases_Bool (is_by_move h r)) [
    | inl move ↦ ByMove other move
    | inr still ↦ ⊎_elim
        (λ (t : (is_by_move h r || is_by_turn h r || is_by_trial h r) ≡ true). ⊎_elim
        (λ (u : (is_by_move h r || is_by_turn h r) ≡ true). ByTurn other still (other-way (is_by_move h r) (is_by_turn h r) still u))
        (λ (u : is_by_trial h r ≡ true). absurd (true≢false (sym u ∙ other)))
        (or_cases (is_by_move h r || is_by_turn h r) (is_by_trial h r) t))
        (λ (t : is_by_slot h r ≡ true). BySlot other still t)
        (or_cases (is_by_move h r || is_by_turn h r || is_by_trial h r) (is_by_slot h r) any)
  ]
]

pub may-draw : (n i : ℕ) (h : Hand) (r : Receipt) → may_draw n i h (Some r) ≡ true → MayDraw n i h r
may-draw n i h r legal =
    let d = both ((r.number == n) && (r.worker == i) && is_none h.trial) (is_by_move h r || is_by_turn h r || is_by_trial h r || is_by_slot h r) legal in
    let c = both ((r.number == n) && (r.worker == i)) (is_none h.trial) d.0 in
    let b = both (r.number == n) (r.worker == i) c.0 in
    record { number = eqb-true r.number n b.0; worker = eqb-true r.worker i b.1; none = none-is h.trial c.1; way = way-is h r d.1 }

module _ (h : Hand) (r : Receipt) where
  pub by-trial : is_by_trial h r ≡ true → (h.has_turn ≡ false) × (is_moving r.reply ≡ false)
  by-trial e =
      let a = both (not h.has_turn && began_even h.began && not (is_output r.call)) (not (is_moving r.reply)) e in
      let b = both (not h.has_turn && began_even h.began) (not (is_output r.call)) a.0 in
      (off h.has_turn (both (not h.has_turn) (began_even h.began) b.0).0, off (is_moving r.reply) a.1)

  pub by-move : is_by_move h r ≡ true → (h.has_turn ≡ true) × (h.writing ≡ true) × (h.drawn ≡ false) × (is_moving r.reply ≡ true)
  by-move e =
      let a = both (h.has_turn && h.writing && not h.drawn) (is_moving r.reply) e in
      let b = both (h.has_turn && h.writing) (not h.drawn) a.0 in
      let c = both h.has_turn h.writing b.0 in
      (c.0, c.1, off h.drawn b.1, a.1)

  pub by-turn : is_by_turn h r ≡ true → (h.has_turn ≡ true) × (h.writing ≡ false) × (is_moving r.reply ≡ false)
  by-turn e =
      let a = both (h.has_turn && not h.writing) (not (is_moving r.reply)) e in
      let b = both h.has_turn (not h.writing) a.0 in
      (b.0, off h.writing b.1, off (is_moving r.reply) a.1)

  pub by-slot : is_by_slot h r ≡ true → (h.has_turn ≡ false) × (is_moving r.reply ≡ false)
  by-slot e =
      let a = both (not h.has_turn && not (holds_none h.slots) && is_output r.call) (not (is_moving r.reply)) e in
      let b = both (not h.has_turn && not (holds_none h.slots)) (is_output r.call) a.0 in
      (off h.has_turn (both (not h.has_turn) (not (holds_none h.slots)) b.0).0, off (is_moving r.reply) a.1)
