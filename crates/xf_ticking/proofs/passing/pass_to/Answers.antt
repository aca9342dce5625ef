use Rattle.std.proofs.Common.{◌≡◌, ℕ, true, List, All, length, slice_set, ap, sym, ◌∙◌, subst}
use Rattle.xf_types.specs.declared.state.Sa.{Sa}
use Rattle.xf_types.specs.Machine.{Shown}
use Rattle.xf_types.specs.TickRules.{at_time}
use Rattle.xf_spd.specs.Slots.{PoolFits as PolicyPoolFits}
use Rattle.xf_image.specs.Readings.{listed_in as policies_listed}
use Rattle.xf_sad.specs.Slots.{PoolFits as StatePoolFits, listed_in as states_listed}
use Rattle.xf_sadidx.specs.Layout.{end_of}
use Rattle.xf_sadimage.specs.States.{StatesStand}
use Rattle.xf_rows.specs.Layouts.{Fits}
use Rattle.xf_rows.specs.Values.{Beside}
use Rattle.xf_rows.specs.Stands.{Stands}
use Rattle.xf_rows.specs.Ticks.{AreAged}
use Rattle.xf_policies.specs.Standing.{LeavesOthers}
use Rattle.xf_ticking.specs.Counted.{CountsStates}
use Rattle.xf_ticking.specs.Ready.{HoldsListed, LeavesOutside}
use Rattle.xf_ticking.specs.Walks.{StatesStood, StandsLeft}
use Rattle.xf_ticking.proofs.Places.{fits_still}
use Rattle.xf_ticking.proofs.Passed.{counts_then, policies_stood, states_stood, stands_passed, states_first, states_last, policies_last, outside_passed}
use Rattle.xf_ticking.proofs.passing.pass_to.Given as given
use Rattle.xf_ticking.proofs.passing.pass_to.Goals as goal

-- ---- before the states come to the time

pub policies_later_here-requires-clause-stood : goal.policies_later_here-requires-clause-stood
policies_later_here-requires-clause-stood g c = policies_stood c.args.layout.now (g.D.Cells.words c.args.parts.now) (g.D.Parts.beside c.args.parts.now) c.requires.stands

pub states_later_here-requires-clause-count : goal.states_later_here-requires-clause-count
states_later_here-requires-clause-count g c = ap (λ (b : Beside). length b.values) c.policies_later_here.ensures.beside ∙ c.requires.stands.stands.count

pub states_later_here-requires-clause-turns : goal.states_later_here-requires-clause-turns
states_later_here-requires-clause-turns g c =
    let layout = c.args.layout.now in
    let b : Beside = g.D.Parts.beside c.args.parts.now in
    let j : List ℕ = g.D.Cells.words c.policies_later_here.new.parts in
    subst (λ (x : Beside). HoldsListed layout j x) (sym c.policies_later_here.ensures.beside)
    (subst (λ (xs : List ℕ). All (λ (slot : ℕ). b.held slot ≡ true) xs)
    (states_first layout (g.D.Cells.words c.args.parts.now) j b (g.D.Parts.hidden c.args.parts.now)
    (subst (λ (n : ℕ). Fits layout n) (sym (g.met.D.Cells.all c.args.parts.now)) c.requires.ready.fits) c.policies_later_here.ensures.others c.requires.stands)
    c.requires.ready.turns)

pub states_later_here-requires-clause-stood : goal.states_later_here-requires-clause-stood
states_later_here-requires-clause-stood g c =
    states_stood c.args.layout.now (g.D.Cells.words c.args.parts.now) (g.D.Cells.words c.policies_later_here.new.parts) (g.D.Parts.beside c.args.parts.now) (g.D.Parts.hidden c.args.parts.now)
    (subst (λ (n : ℕ). Fits c.args.layout.now n) (sym (g.met.D.Cells.all c.args.parts.now)) c.requires.ready.fits) c.policies_later_here.ensures.others c.requires.stands

pub states_later_here-requires-clause-counts : goal.states_later_here-requires-clause-counts
states_later_here-requires-clause-counts g c =
    subst (λ (b : Beside). CountsStates c.args.layout.now (g.D.Cells.words c.policies_later_here.new.parts) b c.args.now c.args.count.states) (sym c.policies_later_here.ensures.beside)
    (counts_then c.args.layout.now (g.D.Cells.words c.args.parts.now) (g.D.Cells.words c.policies_later_here.new.parts) (g.D.Parts.beside c.args.parts.now) (g.D.Parts.hidden c.args.parts.now)
    c.args.now c.args.count.states (subst (λ (n : ℕ). Fits c.args.layout.now n) (sym (g.met.D.Cells.all c.args.parts.now)) c.requires.ready.fits)
    c.policies_later_here.ensures.others c.requires.counts_states)

pub states_later_here-requires-clause-pool : goal.states_later_here-requires-clause-pool
states_later_here-requires-clause-pool g c =
    subst (λ (xs : List ℕ). StatePoolFits (g.Q.Pool.capacity c.args.states.now) (g.Q.Pool.taken c.args.states.now) (g.Q.Pool.gives c.args.states.now) (g.Q.Pool.takes c.args.states.now) c.args.layout.now.states.slots xs)
    (states_first c.args.layout.now (g.D.Cells.words c.args.parts.now) (g.D.Cells.words c.policies_later_here.new.parts) (g.D.Parts.beside c.args.parts.now) (g.D.Parts.hidden c.args.parts.now)
    (subst (λ (n : ℕ). Fits c.args.layout.now n) (sym (g.met.D.Cells.all c.args.parts.now)) c.requires.ready.fits) c.policies_later_here.ensures.others c.requires.stands) c.requires.states

-- ---- afterwards

-- the words that the policies left, and those that the states left
abbrev words_then : (g : given.Over) (c : goal.After-age_all g) → List ℕ
words_then g c = g.D.Cells.words c.policies_later_here.new.parts

abbrev words_last : (g : given.Over) (c : goal.After-age_all g) → List ℕ
words_last g c = g.D.Cells.words c.states_later_here.new.parts

words_are : (g : given.Over) (c : goal.After-age_all g) → g.D.Cells.words c.age_all.new.parts ≡ slice_set (words_last g c) c.args.layout.now.clock c.args.now
words_are g c = c.age_all.ensures.words ∙ c.set_time.ensures.words

values_same : (g : given.Over) (c : goal.After-age_all g) → g.D.Parts.beside c.set_time.new.parts ≡ g.D.Parts.beside c.args.parts.now
values_same g c = c.set_time.ensures.beside ∙ (c.states_later_here.ensures.beside ∙ c.policies_later_here.ensures.beside)

values_are : (g : given.Over) (c : goal.After-age_all g) → AreAged c.args.now (g.D.Parts.beside c.args.parts.now) (g.D.Parts.beside c.age_all.new.parts)
values_are g c = subst (λ (b : Beside). AreAged c.args.now b (g.D.Parts.beside c.age_all.new.parts)) (values_same g c) c.age_all.ensures.beside

fits_all : (g : given.Over) (c : goal.After-age_all g) → Fits c.args.layout.now (length (g.D.Cells.words c.args.parts.now))
fits_all g c = subst (λ (n : ℕ). Fits c.args.layout.now n) (sym (g.met.D.Cells.all c.args.parts.now)) c.requires.ready.fits

fits_then : (g : given.Over) (c : goal.After-age_all g) → Fits c.args.layout.now (length (words_then g c))
fits_then g c = fits_still c.args.layout.now (g.D.Cells.words c.args.parts.now) (words_then g c) c.policies_later_here.ensures.others.size (fits_all g c)

others_then : (g : given.Over) (c : goal.After-age_all g)
    → LeavesOthers (g.D.Parts.hidden c.args.parts.now) c.args.layout.now.states.base (end_of c.args.layout.now.states) (words_then g c) (words_last g c)
others_then g c =
    subst (λ (n : ℕ). LeavesOthers n c.args.layout.now.states.base (end_of c.args.layout.now.states) (words_then g c) (words_last g c)) c.policies_later_here.ensures.hidden c.states_later_here.ensures.others

left_then : (g : given.Over) (c : goal.After-age_all g) (s : Shown) (es : List (ℕ × Sa)) → StatesStand c.args.layout.now.states (words_then g c) s es
    → StandsLeft c.args.layout.now.states (words_last g c) c.args.now (g.D.Parts.beside c.args.parts.now) s es
left_then g c s es st =
    subst (λ (b : Beside). StandsLeft c.args.layout.now.states (words_last g c) c.args.now b s es) c.policies_later_here.ensures.beside (c.states_later_here.ensures.later s es st)

stood_all : (g : given.Over) (c : goal.After-age_all g) → StatesStood c.args.layout.now.states (words_then g c)
stood_all g c =
    states_stood c.args.layout.now (g.D.Cells.words c.args.parts.now) (words_then g c) (g.D.Parts.beside c.args.parts.now) (g.D.Parts.hidden c.args.parts.now)
    (fits_all g c) c.policies_later_here.ensures.others c.requires.stands

pub returns-clause-outside : goal.returns-clause-outside
returns-clause-outside g c =
    let layout = c.args.layout.now in
    let i : List ℕ = g.D.Cells.words c.args.parts.now in
    let b : Beside = g.D.Parts.beside c.args.parts.now in
    let hidden : ℕ = g.D.Parts.hidden c.args.parts.now in
    subst (λ (x : List ℕ). LeavesOutside layout hidden i x b (g.D.Parts.beside c.age_all.new.parts)) (sym (words_are g c))
    (outside_passed layout i (words_then g c) (words_last g c) b (g.D.Parts.beside c.age_all.new.parts) hidden c.args.now (fits_all g c) (values_are g c)
    c.policies_later_here.ensures.others (others_then g c))

pub returns-clause-stands : goal.returns-clause-stands
returns-clause-stands g c = λ m r.
    let layout = c.args.layout.now in
    let b : Beside = g.D.Parts.beside c.args.parts.now in
    subst (λ (x : List ℕ). Stands layout x (g.D.Parts.beside c.age_all.new.parts) (at_time m c.args.now)) (sym (words_are g c))
    (stands_passed layout (g.D.Cells.words c.args.parts.now) (words_then g c) (words_last g c) b (g.D.Parts.beside c.age_all.new.parts) m (g.D.Parts.hidden c.args.parts.now) c.args.now
    (fits_all g c) c.requires.ready.behind c.requires.ready.turns (values_are g c) c.policies_later_here.ensures.others (others_then g c) r
    (λ s es st. c.policies_later_here.ensures.later s es st) (λ s es st. left_then g c s es st))

-- the slots that are listed at last
policies_are : (g : given.Over) (c : goal.After-age_all g)
    → policies_listed c.args.layout.now.policies (words_then g c) ≡ policies_listed c.args.layout.now.policies (g.D.Cells.words c.age_all.new.parts)
policies_are g c =
    let layout = c.args.layout.now in
    policies_last layout (g.D.Cells.words c.args.parts.now) (words_then g c) (words_last g c) (g.D.Parts.hidden c.args.parts.now) c.args.now (fits_then g c) c.requires.ready.behind
    (others_then g c) (policies_stood layout (g.D.Cells.words c.args.parts.now) (g.D.Parts.beside c.args.parts.now) c.requires.stands) (λ s es st. c.policies_later_here.ensures.later s es st)
    ∙ ap (λ (x : List ℕ). policies_listed layout.policies x) (sym (words_are g c))

states_are : (g : given.Over) (c : goal.After-age_all g)
    → states_listed c.args.layout.now.states (words_last g c) ≡ states_listed c.args.layout.now.states (g.D.Cells.words c.age_all.new.parts)
states_are g c =
    let layout = c.args.layout.now in
    states_last layout (words_then g c) (words_last g c) (g.D.Parts.beside c.args.parts.now) c.args.now (fits_still layout (words_then g c) (words_last g c) (others_then g c).size (fits_then g c))
    (stood_all g c) (λ s es st. left_then g c s es st)
    ∙ ap (λ (x : List ℕ). states_listed layout.states x) (sym (words_are g c))

pub returns-clause-policies_out : goal.returns-clause-policies_out
returns-clause-policies_out g c = c.policies_later_here.ensures.out ∙ ap (λ (xs : List ℕ). length xs) (policies_are g c)

pub returns-clause-states_out : goal.returns-clause-states_out
returns-clause-states_out g c = c.states_later_here.ensures.out ∙ ap (λ (xs : List ℕ). length xs) (states_are g c)

pub returns-clause-policies : goal.returns-clause-policies
returns-clause-policies g c = λ lasts.
    let layout = c.args.layout.now in
    let pool = c.policies_later_here.new.pool in
    subst (λ (xs : List ℕ). PolicyPoolFits (g.P.Pool.capacity pool) (g.P.Pool.taken pool) (g.P.Pool.gives pool) (g.P.Pool.takes pool) layout.policies.slots xs)
    (policies_are g c) (c.policies_later_here.ensures.pool lasts)

pub returns-clause-states : goal.returns-clause-states
returns-clause-states g c = λ lasts.
    let layout = c.args.layout.now in
    let pool = c.states_later_here.new.pool in
    subst (λ (xs : List ℕ). StatePoolFits (g.Q.Pool.capacity pool) (g.Q.Pool.taken pool) (g.Q.Pool.gives pool) (g.Q.Pool.takes pool) layout.states.slots xs)
    (states_are g c) (c.states_later_here.ensures.pool lasts)
