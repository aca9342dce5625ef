-- States and their own parts, joined.
use Rattle.std.proofs.Common.{arith, ◌≡◌, ◌≢◌, ℕ, zero, suc, ◌<◌, ◌≤◌, List, [], ◌∷◌, ◌++◌, length, get_or, map, refl, ap, sym, ◌∙◌, subst}
use Rattle.std.specs.Prelude.{AllPairs}
use Rattle.std.specs.List.{AllZip}
use Rattle.std.proofs.lemmas.List.{get_or-map, length-map}
use Rattle.xf_types.specs.declared.state.Sa.{Sa}
use Rattle.xf_replay.specs.declared.own.Own.{Own as OwnPart}
use Rattle.xf_held.specs.View.{HeldView, FitsRecord, held, own_shown}
use Rattle.xf_states.specs.Table.{zipped, table_of}

pub zip-length : {A B : Type 0} (R : A → B → Type 0) (xs : List A) (ys : List B) → AllZip R xs ys → length ys ≡ length xs
zip-length R [] [] each = refl
zip-length R [] (y ∷ ys) each = absurd each
zip-length R (x ∷ xs) [] each = absurd each
zip-length R (x ∷ xs) (y ∷ ys) each = ap suc (zip-length R xs ys each.1)

pub zip-at : {A B : Type 0} (R : A → B → Type 0) (xs : List A) (ys : List B) (i : ℕ) (d : A) (e : B) → AllZip R xs ys → i < length ys
    → R (get_or xs i d) (get_or ys i e)
zip-at R [] [] i d e each within = absurd (omega (arith, within))
zip-at R [] (y ∷ ys) i d e each within = absurd each
zip-at R (x ∷ xs) [] i d e each within = absurd each
zip-at R (x ∷ xs) (y ∷ ys) zero d e each within = each.0
zip-at R (x ∷ xs) (y ∷ ys) (suc i) d e each within = zip-at R xs ys i d e each.1 (omega (arith, within))

pub zipped-length : (states : List Sa) (own : List OwnPart) → length own ≤ length states → length (zipped states own) ≡ length own
zipped-length states [] few = refl
zipped-length [] (o ∷ own) few = absurd (omega (arith, few))
zipped-length (s ∷ states) (o ∷ own) few = ap suc (zipped-length states own (omega (arith, few)))

pub zipped-more : (states : List Sa) (own : List OwnPart) (o : OwnPart) (d : Sa) → length own < length states
    → zipped states (own ++ o ∷ []) ≡ zipped states own ++ held (get_or states (length own) d) (own_shown o) ∷ []
zipped-more [] own o d few = absurd (omega (arith, few))
zipped-more (s ∷ states) [] o d few = refl
zipped-more (s ∷ states) (p ∷ own) o d few = ap (λ hs. held s (own_shown p) ∷ hs) (zipped-more states own o d (omega (arith, few)))

zipped-states : (states : List Sa) (own : List OwnPart) → AllZip FitsRecord states own → map (λ (h : HeldView). h.state) (zipped states own) ≡ states
zipped-states [] [] each = refl
zipped-states [] (o ∷ own) each = absurd each
zipped-states (s ∷ states) [] each = absurd each
zipped-states (s ∷ states) (o ∷ own) each = ap (λ ss. s ∷ ss) (zipped-states states own each.1)

zipped-own : (states : List Sa) (own : List OwnPart) → AllZip FitsRecord states own → map (λ (h : HeldView). h.own) (zipped states own) ≡ map own_shown own
zipped-own [] [] each = refl
zipped-own [] (o ∷ own) each = absurd each
zipped-own (s ∷ states) [] each = absurd each
zipped-own (s ∷ states) (o ∷ own) each = ap (λ os. own_shown o ∷ os) (zipped-own states own each.1)

-- the table of what is joined has the two lists
pub table_of-zipped : (states : List Sa) (own : List OwnPart) → AllZip FitsRecord states own
    → table_of (zipped states own) ≡ record { states = states; own = map own_shown own }
table_of-zipped states own each = λ i. record { states = zipped-states states own each i; own = zipped-own states own each i }

-- states that share no state id, held
pub apart-held : (states : List Sa) (hs : List HeldView) → map (λ (h : HeldView). h.state) hs ≡ states → AllPairs (λ x y. x.sid ≢ y.sid) states
    → AllPairs (λ x y. x.state.sid ≢ y.state.sid) hs
apart-held states hs is apart i j d less within =
    let state : (k : ℕ) → k < length hs → get_or (map (λ (h : HeldView). h.state) hs) k d.state ≡ (get_or hs k d).state =
    λ k w. get_or-map (λ (h : HeldView). h.state) hs k d d.state w in
    let both = subst (λ (ss : List Sa). AllPairs (λ x y. x.sid ≢ y.sid) ss) (sym is) apart in
    λ e. both i j d.state less (subst (λ n. j < n) (sym (length-map hs (λ (h : HeldView). h.state))) within)
    (ap (λ (s : Sa). s.sid) (state i (omega (arith, less, within))) ∙ e ∙ ap (λ (s : Sa). s.sid) (sym (state j within)))

pub apart-zipped : (states : List Sa) (own : List OwnPart) → AllZip FitsRecord states own → AllPairs (λ x y. x.sid ≢ y.sid) states
    → AllPairs (λ x y. x.state.sid ≢ y.state.sid) (zipped states own)
apart-zipped states own each apart = apart-held states (zipped states own) (zipped-states states own each) apart

-- where the next state stands
pub next-place : (states : List Sa) (own yielded : List OwnPart) (hs : List HeldView) (n : ℕ) → AllZip FitsRecord states own
    → n ≡ length hs → hs ≡ zipped states yielded → length yielded < length own → (n ≡ length yielded) × (n < length states)
next-place states own yielded hs n each is items less =
    let few : length yielded < length states = subst (λ k. length yielded < k) (zip-length FitsRecord states own each) less in
    let at : n ≡ length yielded = is ∙ ap length items ∙ zipped-length states yielded (omega (arith, few)) in
    (at, subst (λ k. k < length states) (sym at) few)

-- the next own part fits the state at its place
pub next-fits : (states : List Sa) (own yielded : List OwnPart) (n : ℕ) (s : Sa) (o : OwnPart) → AllZip FitsRecord states own
    → n ≡ length yielded → length yielded < length own → s ≡ get_or states n s → o ≡ get_or own (length yielded) o → FitsRecord s o
next-fits states own yielded n s o each at less is_s is_o =
    subst (λ x. FitsRecord x o) (ap (λ k. get_or states k s) (sym at) ∙ sym is_s)
    (subst (λ y. FitsRecord (get_or states (length yielded) s) y) (sym is_o) (zip-at FitsRecord states own (length yielded) s o each less))

-- one more
pub next-zipped : (states : List Sa) (yielded : List OwnPart) (hs new : List HeldView) (n : ℕ) (s : Sa) (o : OwnPart)
    → hs ≡ zipped states yielded → n ≡ length yielded → n < length states → s ≡ get_or states n s
    → new ≡ hs ++ held s (own_shown o) ∷ [] → new ≡ zipped states (yielded ++ o ∷ [])
next-zipped states yielded hs new n s o items at within is_s is =
    is ∙ ap (λ xs. xs ++ held s (own_shown o) ∷ []) items
    ∙ ap (λ (x : Sa). zipped states yielded ++ held x (own_shown o) ∷ []) (is_s ∙ ap (λ k. get_or states k s) at)
    ∙ sym (zipped-more states yielded o s (subst (λ k. k < length states) at within))
