use Rattle.std.proofs.lemmas.Bool.{cases_Bool}
use Rattle.std.proofs.Common.{inl, inr, ◌≡◌, ℕ, ◌+◌, ◌<◌, true, false, cond, not, Bool, List, refl, sym, ap, ◌∙◌, subst, arith, slice_index, slice_set}
use Rattle.xf_types.specs.declared.call.Reply.{Reply}
use Rattle.xf_types.specs.Codes.{is_refusal_of}
use Rattle.xf_types.specs.Moves.{is_moving}
use Rattle.xf_rows.specs.declared.layout.Layout.{Layout}
use Rattle.xf_meaning.specs.Places.{layout_of, policy_id_place, size_of}
use Rattle.xf_serve.proofs.Adding.{Added, added_of, not_spent, placed, refuses, added_answer}
use Rattle.xf_serve.proofs.changing.add.Given as given
use Rattle.xf_serve.proofs.changing.add.Goals as goal

pub policy_add-reply-requires-clause-spent : goal.policy_add-reply-requires-clause-spent
policy_add-reply-requires-clause-spent g c =
    not_spent c.free_slot-pool.result c.args.policies _ (c.free_slot-pool.ensures.pool _ (g.met.C.Cells.own c.free_slot-pool.new.words))

pub policy_add-reply-requires-clause-below : goal.policy_add-reply-requires-clause-below
policy_add-reply-requires-clause-below g c slot is =
    let pool = c.free_slot-pool.ensures.pool _ (g.met.C.Cells.own c.free_slot-pool.new.words) in
    let places : c.layout_of-layout.result ≡ layout_of c.args.policies c.args.states = c.layout_of-layout.ensures.places in
    subst (λ (l : Layout). slot < l.policies.slots) (sym places) (pool.scan.unlisted slot is).0

abbrev added : (g : given.Over) (c : goal.After-count_added-arg-1 g) → Added c.args.policies c.args.states (g.C.Cells.words c.args.words.now) (g.C.Cells.words c.policy_add-reply.new.c) c.args.spec.now c.policy_add-reply.result
added g c =
    let old : List ℕ = g.C.Cells.words c.args.words.now in
    let one : g.C.Cells.words c.read-id.new.cells ≡ old = c.read-id.ensures.words in
    let two : g.C.Cells.words c.read-number.new.cells ≡ old = c.read-number.ensures.words ∙ one in
    let three : g.C.Cells.words c.read-now.new.cells ≡ old = c.read-now.ensures.words ∙ two in
    let pre : List ℕ = g.C.Cells.words c.free_slot-pool.new.words in
    let four : pre ≡ old =
    g.met.C.Cells.only c.read-now.new.cells pre (c.free_slot-pool.ensures.among.among pre (g.met.C.Cells.own c.free_slot-pool.new.words)) ∙ three in
    added_of c.args.policies c.args.states c.layout_of-layout.result old pre (g.C.Cells.words c.policy_add-reply.new.c) c.args.spec.now c.policy_add-reply.result
    c.read-now.result c.read-number.result c.free_slot-pool.result _ c.layout_of-layout.ensures.places four (g.met.C.Cells.all c.args.words.now ∙ c.requires.size)
    c.requires.some c.requires.most c.requires.told (c.read-now.ensures.word ∙ ap (λ (i : List ℕ). slice_index i c.layout_of-layout.result.clock) two)
    (c.read-number.ensures.word ∙ ap (λ (i : List ℕ). slice_index i ((c.args.policies + c.args.states) + 1)) one)
    (omega (arith, c.if-number-ge-LAST_NUMBER.false)) (c.free_slot-pool.ensures.pool pre (g.met.C.Cells.own c.free_slot-pool.new.words))
    (record {
      frame = c.policy_add-reply.ensures.frame;
      refused = λ e. c.policy_add-reply.ensures.refused e;
      answers = c.policy_add-reply.ensures.answer;
      adds = c.policy_add-reply.ensures.adds;
    })

abbrev added_then : (g : given.Over) (c : goal.After-count_added g) → Added c.args.policies c.args.states (g.C.Cells.words c.args.words.now) (g.C.Cells.words c.policy_add-reply.new.c) c.args.spec.now c.policy_add-reply.result
added_then g c =
    let old : List ℕ = g.C.Cells.words c.args.words.now in
    let one : g.C.Cells.words c.read-id.new.cells ≡ old = c.read-id.ensures.words in
    let two : g.C.Cells.words c.read-number.new.cells ≡ old = c.read-number.ensures.words ∙ one in
    let three : g.C.Cells.words c.read-now.new.cells ≡ old = c.read-now.ensures.words ∙ two in
    let pre : List ℕ = g.C.Cells.words c.free_slot-pool.new.words in
    let four : pre ≡ old =
    g.met.C.Cells.only c.read-now.new.cells pre (c.free_slot-pool.ensures.among.among pre (g.met.C.Cells.own c.free_slot-pool.new.words)) ∙ three in
    added_of c.args.policies c.args.states c.layout_of-layout.result old pre (g.C.Cells.words c.policy_add-reply.new.c) c.args.spec.now c.policy_add-reply.result
    c.read-now.result c.read-number.result c.free_slot-pool.result _ c.layout_of-layout.ensures.places four (g.met.C.Cells.all c.args.words.now ∙ c.requires.size)
    c.requires.some c.requires.most c.requires.told (c.read-now.ensures.word ∙ ap (λ (i : List ℕ). slice_index i c.layout_of-layout.result.clock) two)
    (c.read-number.ensures.word ∙ ap (λ (i : List ℕ). slice_index i ((c.args.policies + c.args.states) + 1)) one)
    (omega (arith, c.if-number-ge-LAST_NUMBER.false)) (c.free_slot-pool.ensures.pool pre (g.met.C.Cells.own c.free_slot-pool.new.words))
    (record {
      frame = c.policy_add-reply.ensures.frame;
      refused = λ e. c.policy_add-reply.ensures.refused e;
      answers = c.policy_add-reply.ensures.answer;
      adds = c.policy_add-reply.ensures.adds;
    })

pub count_added-requires-clause-begun : goal.count_added-requires-clause-begun
count_added-requires-clause-begun g c moving =
    let x = added g c in
    let no : is_refusal_of c.policy_add-reply.result ≡ false =
    refuses c.args.policies c.args.states _ _ c.args.spec.now c.policy_add-reply.result x ∙ ap (λ (b : Bool). not b) moving in
    c.policy_add-reply.ensures.begun ∙ ap (λ (b : Bool). cond b (g.C.Load.begun c.free_slot-pool.new.words) true) no

pub count_added-requires-clause-slot : goal.count_added-requires-clause-slot
count_added-requires-clause-slot g c moving =
    let size : g.C.Load.size c.policy_add-reply.new.c ≡ size_of c.args.policies c.args.states =
    c.policy_add-reply.ensures.size ∙ c.free_slot-pool.ensures.size ∙ c.read-now.ensures.size ∙ c.read-number.ensures.size ∙ c.read-id.ensures.size ∙ c.requires.size in
    placed c.args.policies c.args.states (g.C.Load.size c.policy_add-reply.new.c) _ _ c.args.spec.now c.policy_add-reply.result (added g c) c.free_slot-pool.result.slot size refl moving

flip : (a d : Bool) → cond (not a) d true ≡ cond a true d
flip true d = refl
flip false d = refl

same_cond : (a b d : Bool) → a ≡ b → cond (not a) d true ≡ cond b true d
same_cond a b d e = flip a d ∙ ap (λ (x : Bool). cond x true d) e

pub returns-clause-begun : goal.returns-clause-begun
returns-clause-begun g c =
    let x = added_then g c in
    let r : Reply = c.policy_add-reply.result in
    let by_refusal : is_refusal_of r ≡ not (is_moving r) = refuses c.args.policies c.args.states _ _ c.args.spec.now r x in
    let before : g.C.Load.begun c.free_slot-pool.new.words ≡ g.C.Load.begun c.args.words.now =
    c.free_slot-pool.ensures.begun ∙ c.read-now.ensures.begun ∙ c.read-number.ensures.begun ∙ c.read-id.ensures.begun in
    c.count_added.ensures.begun ∙ c.policy_add-reply.ensures.begun
    ∙ ap (λ (b : Bool). cond b (g.C.Load.begun c.free_slot-pool.new.words) true) by_refusal
    ∙ ap (λ (b : Bool). cond (not (is_moving r)) b true) before
    ∙ same_cond (is_moving r) (is_moving c.count_added.result) (g.C.Load.begun c.args.words.now)
    (elim (cases_Bool (is_moving r)) [
      | inl moves ↦ moves ∙ sym (ap (λ (y : Reply). is_moving y) (c.count_added.ensures.added moves).0 ∙ moves)
      | inr stays ↦ stays ∙ sym (c.count_added.ensures.refused stays).1.still
    ])

pub returns-clause-answer : goal.returns-clause-answer
returns-clause-answer g c =
    let p : ℕ = c.args.policies in
    let s : ℕ = c.args.states in
    let old : List ℕ = g.C.Cells.words c.args.words.now in
    let mid : List ℕ = g.C.Cells.words c.policy_add-reply.new.c in
    let new : List ℕ = g.C.Cells.words c.count_added.new.words in
    let place : c.layout_of-layout.result.clock + 1 ≡ policy_id_place p s = ap (λ (l : Layout). l.clock + 1) c.layout_of-layout.ensures.places in
    let word : c.read-id.result ≡ slice_index old (policy_id_place p s) = c.read-id.ensures.word ∙ ap (λ (n : ℕ). slice_index old n) place in
    added_answer p s old mid new c.args.spec.now c.policy_add-reply.result c.count_added.result (added_then g c) c.free_slot-pool.result.slot refl
    (λ moves.
    let w = c.count_added.ensures.added moves in (
      w.0,
      λ one is.
          w.1 one is ∙ ap (λ (n : ℕ). slice_set (slice_set mid one 1) n (c.read-id.result + 1)) place
          ∙ ap (λ (n : ℕ). slice_set (slice_set mid one 1) (policy_id_place p s) (n + 1)) word,
    ))
    c.count_added.ensures.refused
