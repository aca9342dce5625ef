-- States that aren't touched stay in their slots.
use Rattle.std.proofs.Common.{◌≡◌, ◌≢◌, ℕ, ◌<◌, ◌==◌, ◌||◌, Bool, true, false, not, cond, List, [], ◌∷◌, ◌++◌, Option, None, Some, refl, ap, sym, ◌∙◌, subst, arith, rules, AllPairs, ◌⊎◌, inl, inr, append-nil}
use Rattle.std.specs.Prelude.{All}
use Rattle.std.proofs.lemmas.Bool.Decides.{nat_tests}
use Rattle.std.proofs.lemmas.List.Elements.{All-head, All-tail}
use Rattle.xf_types.specs.declared.state.Sa.{Sa}
use Rattle.xf_types.specs.Machine.{Shown}
use Rattle.xf_types.specs.IsMachine.{IsStateList}
use Rattle.xf_types.specs.PolicyList.{without}
use Rattle.xf_chain.specs.Lists.{Misses, Apart}
use Rattle.xf_index.specs.Indexes.{slots_in, records_in, Holds}
use Rattle.xf_index.proofs.Entries.{slots_append}
use Rattle.xf_sadidx.specs.declared.area.StateArea.{StateArea}
use Rattle.xf_sadidx.specs.Layout.{record_at}
use Rattle.xf_sadimage.specs.States.{StatesStand}
use Rattle.xf_sad.specs.Changes.{is_slot, entries_but, Comes, new_state}
use Rattle.xf_sad.specs.Places.{state_in, KeepsPlaces, slots_but, SlotCame}
use Rattle.xf_sad.specs.Slots.{is_in, Where, listed_in}
use Rattle.xf_sad.proofs.Found.{listed_is, listed_between, state_is, stands_apart}
use Rattle.xf_sad.proofs.Pools.{in_between}
use Rattle.xf_sad.proofs.Placings.{but_between}
use Rattle.xf_sad.proofs.Rules.{sids_in, sids_apart}

-- ---- what a slot lists, of entries

-- the record of the entry with a slot, where one has it
abbrev pub state_of : List (ℕ × Sa) → ℕ → Option Sa
state_of [] slot = None
state_of (e ∷ es) slot = cond (e.0 == slot) (Some e.1) (state_of es slot)

equal : (x y : ℕ) → (x == y) ≡ true → x ≡ y
equal x y e = grind (arith, nat_tests)

of_listed : (read : ℕ → Option Sa) (es : List (ℕ × Sa)) (slot : ℕ) → Holds read (λ q. Some q) es → cond (is_in slot (slots_in es)) (read slot) None ≡ state_of es slot
of_listed read [] slot h = refl
of_listed read (e ∷ es) slot h = by (of_listed read es slot h.1) (e.0 == slot) refl
  where
    by : cond (is_in slot (slots_in es)) (read slot) None ≡ state_of es slot
        → (b : Bool) → (e.0 == slot) ≡ b → cond (b || is_in slot (slots_in es)) (read slot) None ≡ cond b (Some e.1) (state_of es slot)
    by rest true q = ap read (sym (equal e.0 slot q)) ∙ h.0
    by rest false q = rest

pub state_in_is : (a : StateArea) (image : List ℕ) (s : Shown) (es : List (ℕ × Sa)) (slot : ℕ) → StatesStand a image s es → state_in a image slot ≡ state_of es slot
unfolding state_in
state_in_is a image s es slot st =
    let chained = st.chained in
    ap (λ (xs : List ℕ). cond (is_in slot xs) (record_at a image slot) None) (listed_is a image s es st)
    ∙ of_listed (λ x. record_at a image x) es slot chained.records

-- a state between others is what its slot lists
pub state_there : (a : StateArea) (image : List ℕ) (s : Shown) (front back : List (ℕ × Sa)) (slot : ℕ) (r : Sa) → StatesStand a image s (front ++ ((slot, r) ∷ back))
    → state_in a image slot ≡ Some r
unfolding state_in
state_there a image s front back slot r st =
    ap (λ (xs : List ℕ). cond (is_in slot xs) (record_at a image slot) None) (listed_between a image s front back slot r st)
    ∙ ap (λ (b : Bool). cond b (record_at a image slot) None) (in_between (slots_in front) (slots_in back) slot) ∙ state_is a image s slot front back r st

same_some : (x y : Sa) (o : Option Sa) → o ≡ Some x → o ≡ Some y → x ≡ y
same_some x y o e f = let k : Some x ≡ Some y = sym e ∙ f in cc

none_some : (y : Sa) → None ≡ Some y → ⊥
none_some y e = cc

-- ---- state ids

sid_there : (es : List (ℕ × Sa)) (p : ℕ) (x : Sa) (n : ℕ) → state_of es p ≡ Some x → Misses n (sids_in es) → n ≢ x.sid
unfolding sids_in
sid_there [] p x n e m k = none_some x e
sid_there (d ∷ es) p x n e m k = by (λ f. sid_there es p x n f m.1 k) (d.0 == p) e
  where
    by : (state_of es p ≡ Some x → ⊥) → (b : Bool) → cond b (Some d.1) (state_of es p) ≡ Some x → ⊥
    by rest true f = m.0 (k ∙ ap (λ (y : Sa). y.sid) (same_some x d.1 (Some d.1) f refl))
    by rest false f = rest f

-- no two slots list states with one id
one_slot : (es : List (ℕ × Sa)) → Apart (sids_in es) → (p q : ℕ) (x y : Sa) → state_of es p ≡ Some x → state_of es q ≡ Some y → x.sid ≡ y.sid → p ≡ q
unfolding sids_in
one_slot [] apart p q x y e f k = absurd (none_some x e)
one_slot (d ∷ es) apart p q x y e f k = by (λ g h. one_slot es apart.1 p q x y g h k) (d.0 == p) (d.0 == q) refl refl e f
  where
    by : (state_of es p ≡ Some x → state_of es q ≡ Some y → p ≡ q)
        → (b c : Bool) → (d.0 == p) ≡ b → (d.0 == q) ≡ c → cond b (Some d.1) (state_of es p) ≡ Some x → cond c (Some d.1) (state_of es q) ≡ Some y → p ≡ q
    by rest true true i j g h = sym (equal d.0 p i) ∙ equal d.0 q j
    by rest true false i j g h = absurd (sid_there es q y d.1.sid h apart.0 (ap (λ (z : Sa). z.sid) (same_some d.1 x (Some d.1) refl g) ∙ k))
    by rest false true i j g h = absurd (sid_there es p x d.1.sid g apart.0 (ap (λ (z : Sa). z.sid) (same_some d.1 y (Some d.1) refl h) ∙ sym k))
    by rest false false i j g h = rest g h

given_there : (es : List (ℕ × Sa)) (p : ℕ) (x : Sa) (n : ℕ) → state_of es p ≡ Some x → All (λ (y : Sa). y.sid < n) (records_in es) → x.sid < n
given_there [] p x n e all = absurd (none_some x e)
given_there (d ∷ es) p x n e all = by (λ f. given_there es p x n f (All-tail (λ (y : Sa). y.sid < n) d.1 (records_in es) all)) (d.0 == p) e
  where
    by : (state_of es p ≡ Some x → x.sid < n) → (b : Bool) → cond b (Some d.1) (state_of es p) ≡ Some x → x.sid < n
    by rest true f = subst (λ (y : Sa). y.sid < n) (same_some d.1 x (Some d.1) refl f) (All-head (λ (y : Sa). y.sid < n) d.1 (records_in es) all)
    by rest false f = rest f

-- ---- places that entries keep

-- the same of entries
pub record KeepsEntries (held : ℕ → Bool) (es fs : List (ℕ × Sa)) : Type 0 where
  pub others : (slot : ℕ) → held slot ≡ false → state_of fs slot ≡ state_of es slot
  pub stays : (p q : ℕ) (x y : Sa) → state_of es p ≡ Some x → state_of fs q ≡ Some y → x.sid ≡ y.sid → p ≡ q

pub keeps_is : (a : StateArea) (held : ℕ → Bool) (i j : List ℕ) (s t : Shown) (es fs : List (ℕ × Sa)) → StatesStand a i s es → StatesStand a j t fs → KeepsEntries held es fs
    → KeepsPlaces a held i j
keeps_is a held i j s t es fs st tt_ k = record {
  others = λ slot free. state_in_is a j t fs slot tt_ ∙ k.others slot free ∙ sym (state_in_is a i s es slot st);
  stays = λ p q x y e f same. k.stays p q x y (sym (state_in_is a i s es p st) ∙ e) (sym (state_in_is a j t fs q tt_) ∙ f) same;
}

-- a state of the list, or one with this id
abbrev Comes_from : List (ℕ × Sa) → ℕ → Sa → ℕ → Type 0
Comes_from es q y n = ((x : Sa) × (state_of es q ≡ Some x) × (x.sid ≡ y.sid)) ⊎ (y.sid ≡ n)

stays_by : (es fs : List (ℕ × Sa)) (s : Shown) → records_in es ≡ s.states → IsStateList s
    → ((q : ℕ) (y : Sa) → state_of fs q ≡ Some y → Comes_from es q y s.next_sid)
    → (p q : ℕ) (x y : Sa) → state_of es p ≡ Some x → state_of fs q ≡ Some y → x.sid ≡ y.sid → p ≡ q
stays_by es fs s listed is from p q x y e f same = by (from q y f)
  where
    by : Comes_from es q y s.next_sid → p ≡ q
    by (inl k) =
        one_slot es (sids_apart es (subst (λ (xs : List Sa). AllPairs (λ (u v : Sa). u.sid ≡ v.sid → ⊥) xs) (sym listed) is.sids)) p q x k.0 e k.1 (same ∙ sym k.2)
    by (inr k) =
        let less : x.sid < s.next_sid = given_there es p x s.next_sid e (subst (λ (xs : List Sa). All (λ (u : Sa). u.sid < s.next_sid) xs) (sym listed) is.sids_given) in
        absurd (omega (arith, less, same, k))

-- ---- the entry of a slot leaves

but_of : (gone : Option ℕ) (es : List (ℕ × Sa)) (q : ℕ) → state_of (entries_but gone es) q ≡ cond (is_slot gone q) None (state_of es q)
but_of gone [] q = none_either (is_slot gone q)
  where
    none_either : (b : Bool) → None ≡ cond {A = Option Sa} b None None
    none_either true = refl
    none_either false = refl
but_of gone (e ∷ es) q = by (but_of gone es q) (is_slot gone e.0) (e.0 == q) refl refl
  where
    gone_is : (b : Bool) → is_slot gone e.0 ≡ b → (e.0 == q) ≡ true → is_slot gone q ≡ b
    gone_is b i j = subst (λ (n : ℕ). is_slot gone n ≡ b) (equal e.0 q j) i

    by : state_of (entries_but gone es) q ≡ cond (is_slot gone q) None (state_of es q)
        → (b c : Bool) → is_slot gone e.0 ≡ b → (e.0 == q) ≡ c
        → state_of (cond (not b) (e ∷ entries_but gone es) (entries_but gone es)) q ≡ cond (is_slot gone q) None (cond c (Some e.1) (state_of es q))
    by rest true true i j =
        rest ∙ ap (λ (b : Bool). cond b None (state_of es q)) (gone_is true i j) ∙ sym (ap (λ (b : Bool). cond b None (Some e.1)) (gone_is true i j))
    by rest true false i j = rest
    by rest false true i j =
        ap (λ (b : Bool). cond b (Some e.1) (state_of (entries_but gone es) q)) j ∙ sym (ap (λ (b : Bool). cond b None (Some e.1)) (gone_is false i j))
    by rest false false i j = ap (λ (b : Bool). cond b (Some e.1) (state_of (entries_but gone es) q)) j ∙ rest

not_gone : (held : ℕ → Bool) (gone : Option ℕ) (q : ℕ) → Where (λ x. held x ≡ true) gone → held q ≡ false → is_slot gone q ≡ false
not_gone held None q h f = refl
not_gone held (Some x) q h f = by (q == x) refl
  where
    by : (b : Bool) → (q == x) ≡ b → (q == x) ≡ false
    by true e = let k : held q ≡ true = subst (λ (n : ℕ). held n ≡ true) (sym (equal q x e)) h in absurd (cc)
    by false e = e

but_kept : (gone : Option ℕ) (es : List (ℕ × Sa)) (q : ℕ) (y : Sa) → state_of (entries_but gone es) q ≡ Some y → state_of es q ≡ Some y
but_kept gone es q y e = by (is_slot gone q) (sym (but_of gone es q) ∙ e)
  where
    by : (b : Bool) → cond b None (state_of es q) ≡ Some y → state_of es q ≡ Some y
    by true f = absurd (none_some y f)
    by false f = f

but_others : (held : ℕ → Bool) (gone : Option ℕ) (es : List (ℕ × Sa)) → Where (λ x. held x ≡ true) gone → (q : ℕ) → held q ≡ false → state_of (entries_but gone es) q ≡ state_of es q
but_others held gone es h q f = but_of gone es q ∙ ap (λ (b : Bool). cond b None (state_of es q)) (not_gone held gone q h f)

pub keeps_left : (held : ℕ → Bool) (gone : Option ℕ) (es : List (ℕ × Sa)) (s : Shown) → records_in es ≡ s.states → IsStateList s → Where (λ x. held x ≡ true) gone
    → KeepsEntries held es (entries_but gone es)
keeps_left held gone es s listed is h = record {
  others = but_others held gone es h;
  stays = stays_by es (entries_but gone es) s listed is (λ q y e. inl (y, but_kept gone es q y e, refl));
}

-- ---- an entry comes last

last_of : (slot : ℕ) (r : Sa) (es : List (ℕ × Sa)) (q : ℕ) (y : Sa) → state_of (es ++ ((slot, r) ∷ [])) q ≡ Some y → (state_of es q ≡ Some y) ⊎ (r ≡ y)
last_of slot r [] q y e = by (slot == q) e
  where
    by : (b : Bool) → cond b (Some r) None ≡ Some y → (None ≡ Some y) ⊎ (r ≡ y)
    by true f = inr (same_some r y (Some r) refl f)
    by false f = absurd (none_some y f)
last_of slot r (d ∷ es) q y e = by (λ f. last_of slot r es q y f) (d.0 == q) e
  where
    by : (state_of (es ++ ((slot, r) ∷ [])) q ≡ Some y → (state_of es q ≡ Some y) ⊎ (r ≡ y)) → (b : Bool) → cond b (Some d.1) (state_of (es ++ ((slot, r) ∷ [])) q) ≡ Some y → (cond b (Some d.1) (state_of es q) ≡ Some y) ⊎ (r ≡ y)
    by rest true f = inl f
    by rest false f = rest f

last_other : (slot : ℕ) (r : Sa) (es : List (ℕ × Sa)) (q : ℕ) → (slot == q) ≡ false → state_of (es ++ ((slot, r) ∷ [])) q ≡ state_of es q
last_other slot r [] q n = ap (λ (b : Bool). cond {A = Option Sa} b (Some r) None) n
last_other slot r (d ∷ es) q n = ap (λ (o : Option Sa). cond (d.0 == q) (Some d.1) o) (last_other slot r es q n)

differs : (held : ℕ → Bool) (slot q : ℕ) → held slot ≡ true → held q ≡ false → (slot == q) ≡ false
differs held slot q h f = by (slot == q) refl
  where
    by : (b : Bool) → (slot == q) ≡ b → (slot == q) ≡ false
    by true e = let k : held q ≡ true = subst (λ (n : ℕ). held n ≡ true) (equal slot q e) h in absurd (cc)
    by false e = e

pub keeps_came : (held : ℕ → Bool) (gone : Option ℕ) (es : List (ℕ × Sa)) (s : Shown) (slot : ℕ) (r : Sa) → records_in es ≡ s.states → IsStateList s
    → Where (λ x. held x ≡ true) gone → held slot ≡ true → r.sid ≡ s.next_sid → KeepsEntries held es (entries_but gone es ++ ((slot, r) ∷ []))
keeps_came held gone es s slot r listed is h mine new = record {
  others = λ q f. last_other slot r (entries_but gone es) q (differs held slot q mine f) ∙ but_others held gone es h q f;
  stays = stays_by es (entries_but gone es ++ ((slot, r) ∷ [])) s listed is (λ q y e. by q y (last_of slot r (entries_but gone es) q y e));
}
  where
    by : (q : ℕ) (y : Sa) → (state_of (entries_but gone es) q ≡ Some y) ⊎ (r ≡ y) → Comes_from es q y s.next_sid
    by q y (inl e) = inl (y, but_kept gone es q y e, refl)
    by q y (inr e) = inr (ap (λ (z : Sa). z.sid) (sym e) ∙ new)

-- ---- an entry has another record, with its state id

put_other : (slot : ℕ) (x y : Sa) (front back : List (ℕ × Sa)) (q : ℕ) → (slot == q) ≡ false → state_of (front ++ ((slot, y) ∷ back)) q ≡ state_of (front ++ ((slot, x) ∷ back)) q
put_other slot x y [] back q n = ap (λ (b : Bool). cond b (Some y) (state_of back q)) n ∙ sym (ap (λ (b : Bool). cond b (Some x) (state_of back q)) n)
put_other slot x y (d ∷ front) back q n = ap (λ (o : Option Sa). cond (d.0 == q) (Some d.1) o) (put_other slot x y front back q n)

put_was : (slot : ℕ) (x y : Sa) (front back : List (ℕ × Sa)) (q : ℕ) (z : Sa) → x.sid ≡ y.sid → state_of (front ++ ((slot, y) ∷ back)) q ≡ Some z
    → (w : Sa) × (state_of (front ++ ((slot, x) ∷ back)) q ≡ Some w) × (w.sid ≡ z.sid)
put_was slot x y [] back q z same e = by (slot == q) e
  where
    by : (b : Bool) → cond b (Some y) (state_of back q) ≡ Some z → (w : Sa) × (cond b (Some x) (state_of back q) ≡ Some w) × (w.sid ≡ z.sid)
    by true f = (x, refl, same ∙ ap (λ (v : Sa). v.sid) (same_some y z (Some y) refl f))
    by false f = (z, f, refl)
put_was slot x y (d ∷ front) back q z same e = by (λ f. put_was slot x y front back q z same f) (d.0 == q) e
  where
    by : (state_of (front ++ ((slot, y) ∷ back)) q ≡ Some z → (w : Sa) × (state_of (front ++ ((slot, x) ∷ back)) q ≡ Some w) × (w.sid ≡ z.sid))
        → (b : Bool) → cond b (Some d.1) (state_of (front ++ ((slot, y) ∷ back)) q) ≡ Some z
        → (w : Sa) × (cond b (Some d.1) (state_of (front ++ ((slot, x) ∷ back)) q) ≡ Some w) × (w.sid ≡ z.sid)
    by rest true f = (z, f, refl)
    by rest false f = rest f

pub keeps_put : (held : ℕ → Bool) (s : Shown) (slot : ℕ) (x y : Sa) (front back : List (ℕ × Sa)) → records_in (front ++ ((slot, x) ∷ back)) ≡ s.states → IsStateList s
    → held slot ≡ true → x.sid ≡ y.sid → KeepsEntries held (front ++ ((slot, x) ∷ back)) (front ++ ((slot, y) ∷ back))
keeps_put held s slot x y front back listed is mine same = record {
  others = λ q f. put_other slot x y front back q (differs held slot q mine f);
  stays = stays_by (front ++ ((slot, x) ∷ back)) (front ++ ((slot, y) ∷ back)) s listed is (λ q z e. inl (put_was slot x y front back q z same e));
}

-- ---- the entries that pass a test leave

-- the entries but for those whose record passes
abbrev pub entries_left : (Sa → Bool) → List (ℕ × Sa) → List (ℕ × Sa)
entries_left leaves es = without (λ e. leaves e.1) es

unlike : (x q : ℕ) → q ≢ x → (x == q) ≡ false
unlike x q n = grind (arith, nat_tests)

missing : (q : ℕ) (es : List (ℕ × Sa)) → Misses q (slots_in es) → state_of es q ≡ None
missing q [] m = refl
missing q (e ∷ es) m = ap (λ (b : Bool). cond b (Some e.1) (state_of es q)) (unlike e.0 q m.0) ∙ missing q es m.1

left_misses : (leaves : Sa → Bool) (q : ℕ) (es : List (ℕ × Sa)) → Misses q (slots_in es) → Misses q (slots_in (entries_left leaves es))
left_misses leaves q [] m = m
left_misses leaves q (e ∷ es) m = by (left_misses leaves q es m.1) (leaves e.1)
  where
    by : Misses q (slots_in (entries_left leaves es)) → (b : Bool) → Misses q (slots_in (cond (not b) (e ∷ entries_left leaves es) (entries_left leaves es)))
    by rest true = rest
    by rest false = (m.0, rest)

left_kept : (leaves : Sa → Bool) (es : List (ℕ × Sa)) (q : ℕ) (y : Sa) → Apart (slots_in es) → state_of (entries_left leaves es) q ≡ Some y → state_of es q ≡ Some y
left_kept leaves [] q y apart e = e
left_kept leaves (d ∷ es) q y apart e = by (λ f. left_kept leaves es q y apart.1 f) (leaves d.1) (d.0 == q) refl e
  where
    by : (state_of (entries_left leaves es) q ≡ Some y → state_of es q ≡ Some y)
        → (b c : Bool) → (d.0 == q) ≡ c → state_of (cond (not b) (d ∷ entries_left leaves es) (entries_left leaves es)) q ≡ Some y → cond c (Some d.1) (state_of es q) ≡ Some y
    by rest true true i f =
        absurd (none_some y (sym (missing q (entries_left leaves es) (left_misses leaves q es (subst (λ (n : ℕ). Misses n (slots_in es)) (equal d.0 q i) apart.0))) ∙ f))
    by rest true false i f = rest f
    by rest false true i f = sym (ap (λ (b : Bool). cond b (Some d.1) (state_of (entries_left leaves es) q)) i) ∙ f
    by rest false false i f = rest (sym (ap (λ (b : Bool). cond b (Some d.1) (state_of (entries_left leaves es) q)) i) ∙ f)

left_others : (held : ℕ → Bool) (leaves : Sa → Bool) (es : List (ℕ × Sa)) (q : ℕ) → All (λ (e : ℕ × Sa). leaves e.1 ≡ true → held e.0 ≡ true) es → held q ≡ false
    → state_of (entries_left leaves es) q ≡ state_of es q
left_others held leaves [] q turns f = refl
left_others held leaves (d ∷ es) q turns f =
    by (left_others held leaves es q (All-tail (λ (e : ℕ × Sa). leaves e.1 ≡ true → held e.0 ≡ true) d es turns) f) (leaves d.1) (d.0 == q) refl refl
  where
    first : leaves d.1 ≡ true → held d.0 ≡ true
    first = All-head (λ (e : ℕ × Sa). leaves e.1 ≡ true → held e.0 ≡ true) d es turns

    by : state_of (entries_left leaves es) q ≡ state_of es q → (b c : Bool) → leaves d.1 ≡ b → (d.0 == q) ≡ c
        → state_of (cond (not b) (d ∷ entries_left leaves es) (entries_left leaves es)) q ≡ cond c (Some d.1) (state_of es q)
    by rest true true i j = let k : held q ≡ true = subst (λ (n : ℕ). held n ≡ true) (equal d.0 q j) (first i) in absurd (cc)
    by rest true false i j = rest
    by rest false true i j = ap (λ (b : Bool). cond b (Some d.1) (state_of (entries_left leaves es) q)) j
    by rest false false i j = ap (λ (b : Bool). cond b (Some d.1) (state_of (entries_left leaves es) q)) j ∙ rest

pub keeps_without : (held : ℕ → Bool) (leaves : Sa → Bool) (es : List (ℕ × Sa)) (s : Shown) → records_in es ≡ s.states → IsStateList s → Apart (slots_in es)
    → All (λ (e : ℕ × Sa). leaves e.1 ≡ true → held e.0 ≡ true) es → KeepsEntries held es (entries_left leaves es)
keeps_without held leaves es s listed is apart turns = record {
  others = λ q f. left_others held leaves es q turns f;
  stays = stays_by es (entries_left leaves es) s listed is (λ q y e. inl (y, left_kept leaves es q y apart e, refl));
}

-- ---- nothing changes

pub keeps_all : (held : ℕ → Bool) (es : List (ℕ × Sa)) (s : Shown) → records_in es ≡ s.states → IsStateList s → KeepsEntries held es es
keeps_all held es s listed is = record { others = λ q f. refl; stays = stays_by es es s listed is (λ q y e. inl (y, e, refl)) }

-- ---- the slots of the list

pub slots_without : (gone : Option ℕ) (es : List (ℕ × Sa)) → slots_in (entries_but gone es) ≡ slots_but gone (slots_in es)
slots_without gone [] = refl
slots_without gone (e ∷ es) = by (slots_without gone es) (is_slot gone e.0)
  where
    by : slots_in (entries_but gone es) ≡ slots_but gone (slots_in es) → (b : Bool) → slots_in (cond (not b) (e ∷ entries_but gone es) (entries_but gone es)) ≡ cond (not b) (e.0 ∷ slots_but gone (slots_in es)) (slots_but gone (slots_in es))
    by rest true = rest
    by rest false = ap (λ (xs : List ℕ). e.0 ∷ xs) rest

pub slots_left : (a : StateArea) (i j : List ℕ) (s t : Shown) (gone : Option ℕ) (es : List (ℕ × Sa)) → StatesStand a i s es → StatesStand a j t (entries_but gone es)
    → listed_in a j ≡ slots_but gone (listed_in a i)
slots_left a i j s t gone es st tt_ =
    listed_is a j t (entries_but gone es) tt_ ∙ slots_without gone es ∙ ap (λ (xs : List ℕ). slots_but gone xs) (sym (listed_is a i s es st))

pub slot_came : (a : StateArea) (i j : List ℕ) (s t : Shown) (gave : ℕ → Type 0) (gone : Option ℕ) (slot : ℕ) (r : Sa) (es : List (ℕ × Sa)) → gave slot → StatesStand a i s es
    → StatesStand a j t (entries_but gone es ++ ((slot, r) ∷ [])) → SlotCame gave gone (listed_in a i) (listed_in a j)
slot_came a i j s t gave gone slot r es given st tt_ = record {
  slot = slot;
  given = given;
  list = listed_is a j t (entries_but gone es ++ ((slot, r) ∷ [])) tt_ ∙ slots_append (entries_but gone es) ((slot, r) ∷ [])
      ∙ ap (λ (xs : List ℕ). xs ++ (slot ∷ [])) (slots_without gone es ∙ ap (λ (xs : List ℕ). slots_but gone xs) (sym (listed_is a i s es st)));
}
