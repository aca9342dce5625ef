use Rattle.std.proofs.Common.{refl, ◌∙◌, arith}
use Rattle.xf_parts.proofs.AgeLemmas.{aging_begins, aging_goes, aging_ends}
use Rattle.xf_parts.proofs.aging.age_all.Goals as goal

pub slots-init : goal.slots-init
slots-init g c = record {
  size = refl;
  begun = refl;
  words = refl;
  hidden = refl;
  within = omega arith;
  aged = aging_begins c.args.now (g.P.Parts.beside c.args.parts.now);
}

pub age_if_held-requires : goal.age_if_held-requires
age_if_held-requires g c =
    let k = c.slots.invariant.aged in
    let all = c.requires in
    let t = c.slots-test.true in
    let count = k.count in
    omega (arith, t, all, count)

pub slots-preserved : goal.slots-preserved
slots-preserved g c =
    let k = c.slots.invariant in
    let t = c.slots-test.true in
    let all = c.requires in
    record {
      size = c.age_if_held.ensures.size ∙ k.size;
      begun = c.age_if_held.ensures.begun ∙ k.begun;
      words = c.age_if_held.ensures.words ∙ k.words;
      hidden = c.age_if_held.ensures.hidden ∙ k.hidden;
      within = omega (arith, t);
      aged = aging_goes c.args.now c.slots.slot (g.P.Parts.beside c.args.parts.now) (g.P.Parts.beside c.slots.parts) (g.P.Parts.beside c.age_if_held.new.parts)
          (omega (arith, t, all)) c.age_if_held.ensures.beside k.aged;
    }

pub returns-clause-beside : goal.returns-clause-beside
returns-clause-beside g c =
    let f = c.slots-test.false in
    let all = c.requires in
    aging_ends c.args.now c.slots.slot (g.P.Parts.beside c.args.parts.now) (g.P.Parts.beside c.slots.parts) (omega (arith, f, all)) c.slots.invariant.aged
