use Rattle.std.proofs.Common.{◌≡◌, ℕ, List, ap, ◌∙◌}
use Rattle.xf_image.specs.declared.places.Places.{Places}
use Rattle.xf_image.specs.Writes.{added_words}
use Rattle.xf_listing.proofs.Loading.{words_kept, answer_kept}
use Rattle.xf_listing.proofs.listing.Listing.list_words.Goals as goal

pub returns-clause-words : goal.returns-clause-words
returns-clause-words g c =
    let a = c.args.self.now.area in
    let w : g.C.Cells.words c.begin.new.self ≡ g.C.Cells.words c.args.c.now =
    c.begin.ensures.words ∙ words_kept _ _ _ _ c.places-places.ensures.among (g.met.C.Cells.only c.args.c.now) (g.met.C.Cells.own c.places-places.new.l) in
    c.put.ensures.words
    ∙ (ap (λ (i : List ℕ). added_words a i c.places-places.result c.args.slot c.args.policy.now c.args.word) w
    ∙ ap (λ (p : Places). added_words a (g.C.Cells.words c.args.c.now) p c.args.slot c.args.policy.now c.args.word)
    (c.places-places.ensures.answer _ (answer_kept _ _ _ _ c.places-places.ensures.among (g.met.C.Cells.only c.args.c.now) (g.met.C.Cells.own c.places-places.new.l))))

pub returns-clause-bucket : goal.returns-clause-bucket
returns-clause-bucket g c =
    ap (λ (p : Places). p.bucket)
    (c.places-places.ensures.answer _ (answer_kept _ _ _ _ c.places-places.ensures.among (g.met.C.Cells.only c.args.c.now) (g.met.C.Cells.own c.places-places.new.l)))
