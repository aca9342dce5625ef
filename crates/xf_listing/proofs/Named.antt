-- What is found along a chain of an index is the policy of the list, and parts it.
use Rattle.std.proofs.Common.{◌≡◌, ℕ, ◌%◌, ◌<◌, ◌==◌, Bool, true, false, cond, ◌||◌, List, [], ◌∷◌, Option, None, Some, refl, ap, sym, ◌∙◌, subst, arith, find, if◌then◌else◌}
use Rattle.std.specs.Prelude.{is_some}
use Rattle.std.specs.List.{list_any}
use Rattle.std.proofs.lemmas.Bool.Decides.{nat_tests}
use Rattle.xf_types.specs.declared.network.Dir.{Dir}
use Rattle.xf_types.specs.declared.network.Mark.{Mark}
use Rattle.xf_types.specs.declared.network.Ptype.{Ptype}
use Rattle.xf_types.specs.declared.network.Selector.{Selector}
use Rattle.xf_types.specs.declared.policy.Policy.{Policy}
use Rattle.xf_types.specs.declared.policy.PolicyKey.{PolicyKey}
use Rattle.xf_types.specs.declared.policy.PolicyKey.TheVariants as key
use Rattle.xf_types.specs.declared.policy.PolicySpec.{PolicySpec}
use Rattle.xf_types.specs.Machine.{Shown}
use Rattle.xf_types.specs.PolicyList.{AreSame, is_under, is_same, has_index, has_key}
use Rattle.xf_types.specs.PolicyRules.{policy_same_as, is_index_taken}
use Rattle.xf_types.proofs.Decisions.{Decides-is_same}
use Rattle.xf_index.specs.Indexes.{records_in, AllAre, Holds}
use Rattle.xf_index.proofs.Holds.{holds_at}
use Rattle.xf_image.specs.declared.area.PolicyArea.{PolicyArea}
use Rattle.xf_image.specs.Layout.{exact_of, indices_of, record_at}
use Rattle.xf_image.specs.ExactKeys.{spec_key, exact_key, lens_of, is_exact_for, exact_number}
use Rattle.xf_image.specs.Policies.{index_key, PoliciesStand}
use Rattle.xf_image.specs.Readings.{hthresh6_in}
use Rattle.xf_image.proofs.ExactLaws.{under_key}
use Rattle.xf_exact.specs.declared.query.Query.TheVariants.{Index, Under}
use Rattle.xf_exact.specs.Parts.{is_in_exact}
use Rattle.xf_trie.specs.Keys.{key_of}
use Rattle.xf_trie.specs.Nodes.{Below}
use Rattle.xf_types.specs.Address.{family_of}
use Rattle.xf_inexact.specs.Holds.{inexact_key}
use Rattle.xf_inexact.specs.Keys.{bin_of, found_below, node_of, selector_node}
use Rattle.xf_inexact.specs.Places.{chains_of, count_of}
use Rattle.xf_inexact.specs.Whole.{SpdStands, trees_of}
use Rattle.xf_inexact.proofs.Listed.{under_node}
use Rattle.xf_inexact.proofs.NodeLaws.{under_below}
use Rattle.xf_index.specs.Finds.{found_in, slot_found, Found}
use Rattle.xf_index.proofs.Finds.{found_splits}
use Rattle.xf_exact.proofs.FindingLaws.{own_found_is}
use Rattle.xf_listing.specs.declared.entry.Entry.{Entry}
use Rattle.xf_listing.specs.Walks.{slot_with, is_taken_in}
use Rattle.xf_listing.specs.Calls.{found_with, found_at, found_policy, found_there, found_by, slot_under, slot_named, same_in, named_in}
use Rattle.xf_listing.proofs.Reading.{hthresh4_is, hthresh6_is}

-- ---- a slot with its policy

policy_step : (a : PolicyArea) (image : List ℕ) (e : ℕ × Policy) (b : Bool) (rest : Option (ℕ × Policy)) (found : Option Policy) → record_at a image e.0 ≡ Some e.1
    → found_policy (found_at a image (slot_found rest)) ≡ found → found_policy (found_at a image (slot_found (cond b (Some e) rest))) ≡ cond b (Some e.1) found
policy_step a image e true rest found h k = ap (λ (o : Option Policy). found_policy (found_with e.0 o)) h
policy_step a image e false rest found h k = k

pub policy_found : (a : PolicyArea) (image : List ℕ) (test : Policy → Bool) (es : List (ℕ × Policy)) → Holds (λ x. record_at a image x) (λ p. Some p) es
    → found_policy (found_at a image (slot_found (found_in test es))) ≡ find test (records_in es)
policy_found a image test [] h = refl
policy_found a image test (e ∷ es) h =
    policy_step a image e (test e.1) (found_in test es) (find test (records_in es)) h.0 (policy_found a image test es h.1)

found_parts : (a : PolicyArea) (image : List ℕ) (test : Policy → Bool) (es : List (ℕ × Policy)) (slot : ℕ) (p : Policy) (f : Entry)
    → Holds (λ x. record_at a image x) (λ p. Some p) es → Found test slot p es → found_with slot (record_at a image slot) ≡ Some f → Found test f.slot f.policy es
found_parts a image test es slot p f h first e =
    let r : record_at a image slot ≡ Some p =
    holds_at (λ x. record_at a image x) (λ p. Some p) slot p first.front first.back
    (subst (λ (xs : List (ℕ × Policy)). Holds (λ x. record_at a image x) (λ p. Some p) xs) first.whole h) in
    let made : Some (record { slot = slot; policy = p }) ≡ Some f = sym (ap (λ (o : Option Policy). found_with slot o) r) ∙ e in
    let same : record { slot = slot; policy = p } ≡ f = cc in
    subst (λ (g : Entry). Found test g.slot g.policy es) same first

parts_by : (a : PolicyArea) (image : List ℕ) (test : Policy → Bool) (es : List (ℕ × Policy)) (o : Option (ℕ × Policy)) (f : Entry) → found_in test es ≡ o
    → Holds (λ x. record_at a image x) (λ p. Some p) es → found_at a image (slot_found o) ≡ Some f → Found test f.slot f.policy es
parts_by a image test es None f k h e = absurd (cc)
parts_by a image test es (Some x) f k h e = found_parts a image test es x.0 x.1 f h (found_splits test es x.0 x.1 k) e

pub parts_found : (a : PolicyArea) (image : List ℕ) (test : Policy → Bool) (es : List (ℕ × Policy)) (f : Entry)
    → Holds (λ x. record_at a image x) (λ p. Some p) es → found_at a image (slot_found (found_in test es)) ≡ Some f → Found test f.slot f.policy es
parts_found a image test es f h e = parts_by a image test es (found_in test es) f refl h e

-- two tests that agree find one entry
pub found_same : (test other : Policy → Bool) (es : List (ℕ × Policy)) → ((p : Policy) → test p ≡ other p) → found_in test es ≡ found_in other es
found_same test other [] f = refl
found_same test other (e ∷ es) f =
    ap (λ (b : Bool). cond b (Some e) (found_in test es)) (f e.1) ∙ ap (λ (o : Option (ℕ × Policy)). cond (other e.1) (Some e) o) (found_same test other es f)

-- ---- by index

index_row : (index own : ℕ) → (own == index) ≡ true → Some (own % 1024) ≡ Some (index % 1024)
index_row index own e = let same : own ≡ index = grind (arith, nat_tests) in ap (λ (n : ℕ). Some (n % 1024)) same

pub slot_with_is : (a : PolicyArea) (image : List ℕ) (s : Shown) (es : List (ℕ × Policy)) (index : ℕ) → PoliciesStand a image s es
    → slot_with a image index ≡ slot_found (found_in (has_index index) es)
slot_with_is a image s es index g =
    own_found_is a image (Index index) (indices_of a) index_key (index % 1024) es (omega arith) (λ p e. index_row index p.index e) g.links.indices g.columns

any_step : (b : Bool) (e : ℕ × Policy) (o : Option (ℕ × Policy)) (any : Bool) → is_some (slot_found o) ≡ any → is_some (slot_found (cond b (Some e) o)) ≡ (b || any)
any_step true e o any h = refl
any_step false e o any h = h

some_any : (test : Policy → Bool) (es : List (ℕ × Policy)) → is_some (slot_found (found_in test es)) ≡ list_any test (records_in es)
some_any test [] = refl
some_any test (e ∷ es) = any_step (test e.1) e (found_in test es) (list_any test (records_in es)) (some_any test es)

pub taken_is : (a : PolicyArea) (image : List ℕ) (s : Shown) (es : List (ℕ × Policy)) (index : ℕ) → PoliciesStand a image s es
    → is_taken_in a image index ≡ is_index_taken s index
taken_is a image s es index g =
    ap (λ (o : Option ℕ). is_some o) (slot_with_is a image s es index g)
    ∙ (some_any (has_index index) es ∙ ap (λ (ps : List Policy). list_any (has_index index) ps) g.listed)

-- ---- by what is listed

below_by : (b : Bool) (n k : ℕ) → n < 1024 → (if b then Some n else None) ≡ Some k → k < 1024
below_by true n k h e = let same : n ≡ k = cc in omega (arith, h, same)
below_by false n k h e = absurd (cc)

spec_below : (h4 h6 : ℕ × ℕ) (dir : Dir) (ptype : Ptype) (if_id : ℕ) (sel : Selector) (k : ℕ) → spec_key h4 h6 dir ptype if_id sel ≡ Some k → k < 1024
spec_below h4 h6 dir ptype if_id sel k e =
    below_by (is_exact_for (lens_of h4 h6 sel.src.addr) dir sel) (exact_number (lens_of h4 h6 sel.src.addr) ptype dir if_id sel.dst.addr sel.src.addr) k (omega arith) e

-- what the exact part doesn't take and is listed under a selector stands at the selector's node

not_taken : (b : Bool) (n : ℕ) → cond b (Some n) None ≡ None → b ≡ false
not_taken true n e = absurd (cc)
not_taken false n e = refl

left_out : (h4 h6 : ℕ × ℕ) (dir : Dir) (ptype : Ptype) (sel : Selector) (mark : Mark) (if_id : ℕ) (p : Policy)
    → spec_key h4 h6 dir ptype if_id sel ≡ None → is_under dir ptype sel mark if_id p.spec ≡ true → is_in_exact h4 h6 p ≡ false
left_out h4 h6 dir ptype sel mark if_id p e u =
    not_taken (is_in_exact h4 h6 p) (exact_number (lens_of h4 h6 p.spec.sel.src.addr) p.spec.ptype p.spec.dir p.spec.if_id p.spec.sel.dst.addr p.spec.sel.src.addr)
    (under_key h4 h6 dir ptype sel mark if_id p u ∙ e)

node_key : (a : PolicyArea) (image : List ℕ) (h4 h6 : ℕ × ℕ) (dir : Dir) (ptype : Ptype) (sel : Selector) (mark : Mark) (if_id : ℕ) (p : Policy)
    → spec_key h4 h6 dir ptype if_id sel ≡ None → is_under dir ptype sel mark if_id p.spec ≡ true
    → inexact_key (trees_of a) image h4 h6 p ≡ selector_node (trees_of a) image dir ptype if_id sel
node_key a image h4 h6 dir ptype sel mark if_id p e u =
    ap (λ (b : Bool). if b then None else node_of (trees_of a) image p) (left_out h4 h6 dir ptype sel mark if_id p e u)
    ∙ under_node (trees_of a) image dir ptype sel mark if_id p u

-- where no policy passes, none is found
none_found : (test : Policy → Bool) (es : List (ℕ × Policy)) → AllAre test false es → slot_found (found_in test es) ≡ None
none_found test [] h = refl
none_found test (e ∷ es) h = ap (λ (b : Bool). slot_found (cond b (Some e) (found_in test es))) h.0 ∙ none_found test es h.1

fails_by : (under stands : Bool) → (under ≡ true → stands ≡ false) → stands ≡ true → under ≡ false
fails_by true stands f h = let k : true ≡ false = sym h ∙ f refl in absurd (cc)
fails_by false stands f h = refl

nowhere : (taken : Bool) (node : Option ℕ) → taken ≡ false → node ≡ None → (taken || is_some node) ≡ false
nowhere taken node e h = ap (λ (b : Bool). b || is_some node) e ∙ ap (λ (o : Option ℕ). is_some o) h

all_elsewhere : (a : PolicyArea) (image : List ℕ) (h4 h6 : ℕ × ℕ) (dir : Dir) (ptype : Ptype) (sel : Selector) (mark : Mark) (if_id : ℕ) (es : List (ℕ × Policy))
    → spec_key h4 h6 dir ptype if_id sel ≡ None → selector_node (trees_of a) image dir ptype if_id sel ≡ None
    → AllAre (λ p. is_in_exact h4 h6 p || is_some (node_of (trees_of a) image p)) true es → AllAre (λ p. is_under dir ptype sel mark if_id p.spec) false es
all_elsewhere a image h4 h6 dir ptype sel mark if_id [] e n h = tt
all_elsewhere a image h4 h6 dir ptype sel mark if_id (x ∷ es) e n h = (
  fails_by (is_under dir ptype sel mark if_id x.1.spec) (is_in_exact h4 h6 x.1 || is_some (node_of (trees_of a) image x.1))
      (λ u. nowhere (is_in_exact h4 h6 x.1) (node_of (trees_of a) image x.1) (left_out h4 h6 dir ptype sel mark if_id x.1 e u) (under_node (trees_of a) image dir ptype sel mark if_id x.1 u ∙ n)) h.0,
  all_elsewhere a image h4 h6 dir ptype sel mark if_id es e n h.1,
)

there_by : (a : PolicyArea) (image : List ℕ) (s : Shown) (es : List (ℕ × Policy)) (dir : Dir) (ptype : Ptype) (sel : Selector) (mark : Mark) (if_id : ℕ) (o : Option ℕ)
    → spec_key s.hthresh4 s.hthresh6 dir ptype if_id sel ≡ None → selector_node (trees_of a) image dir ptype if_id sel ≡ o → Below (count_of (trees_of a)) o → SpdStands a image s es
    → found_there a image (Under dir ptype sel mark if_id) o ≡ slot_found (found_in (λ p. is_under dir ptype sel mark if_id p.spec) es)
there_by a image s es dir ptype sel mark if_id None e n b g =
    sym (none_found (λ p. is_under dir ptype sel mark if_id p.spec) es (all_elsewhere a image s.hthresh4 s.hthresh6 dir ptype sel mark if_id es e n g.part.nodes))
there_by a image s es dir ptype sel mark if_id (Some node) e n b g =
    own_found_is a image (Under dir ptype sel mark if_id) (chains_of (trees_of a)) (inexact_key (trees_of a) image s.hthresh4 s.hthresh6) node es b
    (λ p u. node_key a image s.hthresh4 s.hthresh6 dir ptype sel mark if_id p e u ∙ n) g.part.chains g.list.columns

selector_below : (a : PolicyArea) (image : List ℕ) (dir : Dir) (ptype : Ptype) (if_id : ℕ) (sel : Selector) → Below (count_of (trees_of a)) (selector_node (trees_of a) image dir ptype if_id sel)
unfolding selector_node
selector_below a image dir ptype if_id sel =
    under_below (trees_of a) image (found_below (trees_of a) image (bin_of (trees_of a) image ptype (family_of sel.dst.addr) dir if_id) (key_of sel.dst.addr) sel.dst.len)
    (key_of sel.src.addr) sel.src.len

under_by : (a : PolicyArea) (image : List ℕ) (s : Shown) (es : List (ℕ × Policy)) (dir : Dir) (ptype : Ptype) (sel : Selector) (mark : Mark) (if_id : ℕ) (o : Option ℕ)
    → spec_key s.hthresh4 s.hthresh6 dir ptype if_id sel ≡ o → SpdStands a image s es
    → found_by a image (Under dir ptype sel mark if_id) o (selector_node (trees_of a) image dir ptype if_id sel)
    ≡ slot_found (found_in (λ p. is_under dir ptype sel mark if_id p.spec) es)
under_by a image s es dir ptype sel mark if_id None e g =
    there_by a image s es dir ptype sel mark if_id (selector_node (trees_of a) image dir ptype if_id sel) e refl (selector_below a image dir ptype if_id sel) g
under_by a image s es dir ptype sel mark if_id (Some number) e g =
    own_found_is a image (Under dir ptype sel mark if_id) (exact_of a) (exact_key s.hthresh4 s.hthresh6) number es (spec_below s.hthresh4 s.hthresh6 dir ptype if_id sel number e)
    (λ p u. under_key s.hthresh4 s.hthresh6 dir ptype sel mark if_id p u ∙ e) g.list.links.exact g.list.columns

pub slot_under_is : (a : PolicyArea) (image : List ℕ) (s : Shown) (es : List (ℕ × Policy)) (dir : Dir) (ptype : Ptype) (sel : Selector) (mark : Mark) (if_id : ℕ) → SpdStands a image s es
    → slot_under a image dir ptype sel mark if_id ≡ slot_found (found_in (λ p. is_under dir ptype sel mark if_id p.spec) es)
slot_under_is a image s es dir ptype sel mark if_id g =
    let node : Option ℕ = selector_node (trees_of a) image dir ptype if_id sel in
    ap (λ (h4 : ℕ × ℕ). found_by a image (Under dir ptype sel mark if_id) (spec_key h4 (hthresh6_in a image) dir ptype if_id sel) node) (hthresh4_is a image s es g.list)
    ∙ (ap (λ (h6 : ℕ × ℕ). found_by a image (Under dir ptype sel mark if_id) (spec_key s.hthresh4 h6 dir ptype if_id sel) node) (hthresh6_is a image s es g.list)
    ∙ under_by a image s es dir ptype sel mark if_id (spec_key s.hthresh4 s.hthresh6 dir ptype if_id sel) refl g)

-- ---- by a key

pub slot_named_is : (a : PolicyArea) (image : List ℕ) (s : Shown) (es : List (ℕ × Policy)) (k : PolicyKey) → SpdStands a image s es
    → slot_named a image k ≡ slot_found (found_in (has_key k) es)
slot_named_is a image s es (key.Index dir index) g = slot_with_is a image s es index g.list
slot_named_is a image s es (key.Same dir ptype sel mark if_id) g = slot_under_is a image s es dir ptype sel mark if_id g

pub turned : (a b : PolicySpec) → is_same a b ≡ true → is_same b a ≡ true
turned a b e =
    let s : AreSame a b = (Decides-is_same a b).0 e in
    (Decides-is_same b a).1 (record { dir = sym s.dir; ptype = sym s.ptype; if_id = sym s.if_id; sel = sym s.sel; mark = sym s.mark })

alike : (x y : Bool) → (x ≡ true → y ≡ true) → (y ≡ true → x ≡ true) → x ≡ y
alike true y f h = sym (f refl)
alike false true f h = h refl
alike false false f h = refl

pub same_turned : (a b : PolicySpec) → is_same a b ≡ is_same b a
same_turned a b = alike (is_same a b) (is_same b a) (turned a b) (turned b a)

pub same_slot_is : (a : PolicyArea) (image : List ℕ) (s : Shown) (es : List (ℕ × Policy)) (spec : PolicySpec) → SpdStands a image s es
    → slot_under a image spec.dir spec.ptype spec.sel spec.mark spec.if_id ≡ slot_found (found_in (λ p. is_same p.spec spec) es)
same_slot_is a image s es spec g =
    slot_under_is a image s es spec.dir spec.ptype spec.sel spec.mark spec.if_id g
    ∙ ap (λ (o : Option (ℕ × Policy)). slot_found o) (found_same (λ p. is_same spec p.spec) (λ p. is_same p.spec spec) es (λ p. same_turned spec p.spec))

pub same_found : (a : PolicyArea) (image : List ℕ) (s : Shown) (es : List (ℕ × Policy)) (spec : PolicySpec) → SpdStands a image s es
    → found_policy (same_in a image spec) ≡ policy_same_as s spec
same_found a image s es spec g =
    ap (λ (o : Option ℕ). found_policy (found_at a image o)) (same_slot_is a image s es spec g)
    ∙ (policy_found a image (λ p. is_same p.spec spec) es g.list.columns.records
    ∙ ap (λ (ps : List Policy). find (λ p. is_same p.spec spec) ps) g.list.listed)

pub named_found : (a : PolicyArea) (image : List ℕ) (s : Shown) (es : List (ℕ × Policy)) (k : PolicyKey) → SpdStands a image s es
    → found_policy (named_in a image k) ≡ find (has_key k) s.policies
named_found a image s es k g =
    ap (λ (o : Option ℕ). found_policy (found_at a image o)) (slot_named_is a image s es k g)
    ∙ (policy_found a image (has_key k) es g.list.columns.records
    ∙ ap (λ (ps : List Policy). find (has_key k) ps) g.list.listed)

pub same_between : (a : PolicyArea) (image : List ℕ) (s : Shown) (es : List (ℕ × Policy)) (spec : PolicySpec) (f : Entry) → SpdStands a image s es
    → same_in a image spec ≡ Some f → Found (λ p. is_same p.spec spec) f.slot f.policy es
same_between a image s es spec f g e =
    parts_found a image (λ p. is_same p.spec spec) es f g.list.columns.records
    (sym (ap (λ (o : Option ℕ). found_at a image o) (same_slot_is a image s es spec g)) ∙ e)

pub named_between : (a : PolicyArea) (image : List ℕ) (s : Shown) (es : List (ℕ × Policy)) (k : PolicyKey) (f : Entry) → SpdStands a image s es
    → named_in a image k ≡ Some f → Found (has_key k) f.slot f.policy es
named_between a image s es k f g e =
    parts_found a image (has_key k) es f g.list.columns.records (sym (ap (λ (o : Option ℕ). found_at a image o) (slot_named_is a image s es k g)) ∙ e)
