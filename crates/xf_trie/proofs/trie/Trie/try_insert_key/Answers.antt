use Rattle.std.proofs.Common.{ap, slice_index, subst, sym, List, ℕ, ◌∙◌}
use Rattle.xf_trie.specs.Nodes.{Lies}
use Rattle.xf_trie.specs.Rooms.{has_room}
use Rattle.xf_trie.proofs.RoomFrames.{inserted_away}
use Rattle.xf_trie.proofs.RoomLaws.{room_can}
use Rattle.xf_trie.proofs.trie.Trie.try_insert_key.Goals as goal

pub insert_free-requires-clause-can : goal.insert_free-requires-clause-can
insert_free-requires-clause-can g c =
    (room_can c.args.self.now (g.C.Cells.words c.room_here.new.c) (g.C.Load.size c.args.c.now)
    (g.met.C.Cells.all c.room_here.new.c ∙ c.room_here.ensures.size) c.requires.lies
    (ap (λ (image : List ℕ). has_room c.args.self.now image) c.room_here.ensures.words ∙ sym c.room_here.ensures.answer ∙ c.if-room_here.true)).0

pub insert_free-requires-clause-more : goal.insert_free-requires-clause-more
insert_free-requires-clause-more g c =
    (room_can c.args.self.now (g.C.Cells.words c.room_here.new.c) (g.C.Load.size c.args.c.now)
    (g.met.C.Cells.all c.room_here.new.c ∙ c.room_here.ensures.size) c.requires.lies
    (ap (λ (image : List ℕ). has_room c.args.self.now image) c.room_here.ensures.words ∙ sym c.room_here.ensures.answer ∙ c.if-room_here.true)).1

pub returns-then-room_here-clause-others : goal.returns-then-room_here-clause-others
returns-then-room_here-clause-others g c = λ place beside.
    ap (λ (image : List ℕ). slice_index image place) c.insert_free.ensures.words
    ∙ inserted_away c.args.self.now (g.C.Cells.words c.room_here.new.c) c.args.key c.args.len place
    (subst (λ (n : ℕ). Lies c.args.self.now n) (sym (g.met.C.Cells.all c.room_here.new.c ∙ c.room_here.ensures.size)) c.requires.lies) beside
    (ap (λ (image : List ℕ). has_room c.args.self.now image) c.room_here.ensures.words ∙ sym c.room_here.ensures.answer ∙ c.if-room_here.true)
    ∙ ap (λ (image : List ℕ). slice_index image place) c.room_here.ensures.words
