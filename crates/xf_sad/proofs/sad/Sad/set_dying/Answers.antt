use Rattle.std.proofs.Common.{◌≡◌, ℕ, ◌+◌, List, ◌∷◌, ◌++◌, length, slice_set, ap, sym, ◌∙◌, subst, rules, arith}
use Rattle.xf_index.specs.Indexes.{records_in}
use Rattle.xf_records.specs.States.{dying_now}
use Rattle.xf_records.proofs.StateLaws.{state_dying}
use Rattle.xf_image.specs.Frames.{Frame}
use Rattle.xf_image.proofs.Written.{one_word, wider}
use Rattle.xf_sadidx.specs.Layout.{Fits, end_of, record_place}
use Rattle.xf_sadimage.specs.States.{StatesStand}
use Rattle.xf_sadlist.specs.Listed.{with_states}
use Rattle.xf_sadlist.proofs.Rewritings.{Rewritten, rewritten_stand}
use Rattle.xf_sad.proofs.Found.{state_is, dying_keys}
use Rattle.xf_sad.proofs.sad.Sad.set_dying.Given as given
use Rattle.xf_sad.proofs.sad.Sad.set_dying.Goals as goal

-- one word is written
words : (g : given.Over) (c : goal.After-put_dying g)
    → g.C.Cells.words c.put_dying.new.c ≡ slice_set (g.C.Cells.words c.args.c.now) (record_place c.args.self.now.area c.args.slot + 15) 1
words g c =
    let place : c.record_place.result ≡ record_place c.args.self.now.area c.args.slot = search rules in
    c.put_dying.ensures.words ∙ ap (λ (i : List ℕ). slice_set i (c.record_place.result + 15) 1) c.begin.ensures.words
    ∙ ap (λ (p : ℕ). slice_set (g.C.Cells.words c.args.c.now) (p + 15) 1) place

pub returns-clause-frame : goal.returns-clause-frame
returns-clause-frame g c =
    let a = c.args.self.now.area in
    let i : List ℕ = g.C.Cells.words c.args.c.now in
    let inside = c.requires.slot in
    subst (λ (w : List ℕ). Frame a.base (end_of a) i w) (sym (words g c))
    (wider a.base (end_of a) _ _ i (slice_set i (record_place a c.args.slot + 15) 1) (one_word i (record_place a c.args.slot + 15) 1) (omega arith) (omega (arith, inside)))

pub returns-clause-stands : goal.returns-clause-stands
returns-clause-stands g c = λ s front back r st.
    let a = c.args.self.now.area in
    let i : List ℕ = g.C.Cells.words c.args.c.now in
    let slot = c.args.slot in
    let inside = c.requires.slot in
    let at : ℕ = record_place a slot in
    let j : List ℕ = slice_set i (at + 15) 1 in
    let fits : Fits a (length i) = subst (λ (x : ℕ). Fits a x) (sym (g.met.C.Cells.all c.args.c.now)) c.requires.fits in
    let lie = fits.words in
    let f : Frame (at + 15) (at + 15 + 1) i j = one_word i (at + 15) 1 in
    let rewritten : Rewritten a i j slot (dying_now r) = record {
      size = f.size;
      below = λ q h. f.below q (omega (arith, h));
      above = λ q h. f.above q (omega (arith, h));
      there = state_dying i at r (omega (arith, lie, inside)) (state_is a i s slot front back r st);
    } in
    subst (λ (w : List ℕ). StatesStand a w (with_states s (records_in (front ++ ((slot, dying_now r) ∷ back)))) (front ++ ((slot, dying_now r) ∷ back))) (sym (words g c))
    (rewritten_stand a i j slot (dying_now r) inside rewritten s front back r fits (dying_keys r) st)
