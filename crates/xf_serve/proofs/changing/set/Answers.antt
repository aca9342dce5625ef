use Rattle.std.proofs.Common.{◌≡◌, ℕ, ◌+◌, true, false, List, length, sym, ap, ◌∙◌, subst, slice_index, slice_set}
use Rattle.xf_types.specs.declared.call.Call.TheVariants as call
use Rattle.xf_types.specs.declared.call.Reply.{Reply}
use Rattle.xf_types.specs.Changes.{shown_after}
use Rattle.xf_types.specs.Moves.{is_moving}
use Rattle.xf_types.specs.PolicyRules.{policy_set}
use Rattle.xf_image.specs.declared.area.PolicyArea.{PolicyArea}
use Rattle.xf_image.specs.Frames.{Frame}
use Rattle.xf_image.specs.Readings.{listed_in}
use Rattle.xf_inexact.specs.Whole.{SpdStands, whole_end}
use Rattle.xf_rows.specs.declared.layout.Layout.{Layout}
use Rattle.xf_rows.specs.Layouts.{Fits}
use Rattle.xf_meaning.specs.Places.{layout_of, policies_of, policy_id_place, size_of}
use Rattle.xf_serve.specs.Changing.{PolicyMove}
use Rattle.xf_serve.proofs.Policies.{layout_fits}
use Rattle.xf_serve.proofs.Written.{set_moves}
use Rattle.xf_serve.proofs.changing.set.Goals as goal

pub returns-clause-answer : goal.returns-clause-answer
returns-clause-answer g c =
    let p : ℕ = c.args.policies in
    let s : ℕ = c.args.states in
    let old : List ℕ = g.C.Cells.words c.args.words.now in
    let mid : List ℕ = g.C.Cells.words c.policy_set-reply.new.c in
    let new : List ℕ = g.C.Cells.words c.store.new.self in
    let read : g.C.Cells.words c.read-id.new.cells ≡ old = c.read-id.ensures.words in
    let places : c.layout_of-layout.result ≡ layout_of p s = c.layout_of-layout.ensures.places in
    let area : c.layout_of-layout.result.policies ≡ policies_of p s = ap (λ (l : Layout). l.policies) places in
    let size : length old ≡ size_of p s = g.met.C.Cells.all c.args.words.now ∙ c.requires.size in
    let fits : Fits (layout_of p s) (length old) =
    subst (λ (n : ℕ). Fits (layout_of p s) n) (sym size) (layout_fits p s c.requires.some.0 c.requires.most.0 c.requires.some.1 c.requires.most.1) in
    let frame : Frame (policies_of p s).base (whole_end (policies_of p s)) old mid =
    subst (λ (a : PolicyArea). Frame a.base (whole_end a) old mid) area
    (subst (λ (i : List ℕ). Frame c.layout_of-layout.result.policies.base (whole_end c.layout_of-layout.result.policies) i mid) read c.policy_set-reply.ensures.frame) in
    let place : c.layout_of-layout.result.clock + 1 ≡ policy_id_place p s = ap (λ (l : Layout). l.clock + 1) places in
    let word : c.read-id.result ≡ slice_index old (policy_id_place p s) =
    c.read-id.ensures.word ∙ ap (λ (n : ℕ). slice_index old n) place in
    let stored : new ≡ slice_set mid (policy_id_place p s) (slice_index old (policy_id_place p s) + 1) =
    c.store.ensures.words ∙ ap (λ (n : ℕ). slice_set mid n (c.read-id.result + 1)) place
    ∙ ap (λ (n : ℕ). slice_set mid (policy_id_place p s) (n + 1)) word in
    record {
      moved = λ moving.
          subst (λ (r : Reply). PolicyMove p s old new (call.PolicySet c.args.thresholds.now) r) (sym c.policy_set-reply.ensures.done)
          (set_moves p s old mid new c.args.thresholds.now fits size frame
          (λ t es on.
          subst (λ (a : PolicyArea). SpdStands a mid (shown_after t (policy_set t c.args.thresholds.now).change) es) area
          (c.policy_set-reply.ensures.stands t es
          (subst (λ (a : PolicyArea). SpdStands a (g.C.Cells.words c.read-id.new.cells) t es) (sym area)
          (subst (λ (i : List ℕ). SpdStands (policies_of p s) i t es) (sym read) on))))
          (λ t es on.
          subst (λ (a : PolicyArea). listed_in a mid ≡ listed_in a old) area
          (c.policy_set-reply.ensures.slots t es
          (subst (λ (a : PolicyArea). SpdStands a (g.C.Cells.words c.read-id.new.cells) t es) (sym area)
          (subst (λ (i : List ℕ). SpdStands (policies_of p s) i t es) (sym read) on))
          ∙ ap (λ (i : List ℕ). listed_in c.layout_of-layout.result.policies i) read))
          stored);
      still = λ not.
          absurd (let t : true ≡ false = sym (ap (λ (r : Reply). is_moving r) c.policy_set-reply.ensures.done) ∙ not in cc);
    }
