-- Lines that are made one after another, and lists of them.
use Rattle.std.proofs.Common.{◌≡◌, ℕ, zero, suc, ◌+◌, ◌*◌, List, [], ◌∷◌, ◌++◌, length, map, refl, ap, sym, subst, ◌∙◌, append_assoc, add-one, add-suc, arith}
use Rattle.std.specs.List.{flat_map}
use Rattle.std.proofs.lemmas.List.{append-nil, length-append, length-map, map-append}
use Rattle.std.proofs.lemmas.List.Concat.{flat_map-append}
use Rattle.xf_types.specs.Counters.{upwards}
use Rattle.xf_batch.specs.declared.generated_lines.Making.{Making}
use Rattle.xf_batch.specs.declared.task.Job.{Job}
use Rattle.xf_batch.specs.Shown.{lines_shown, line_with}
use Rattle.xf_batch.specs.GeneratedCalls.{next_x, x_after, value_of, value_at}
use Rattle.xf_batch.specs.Generated.{below, numbered}
use Rattle.xf_batch.specs.Making.{Asks}

-- ---- numbers in a row

upwards-suc : (n count : ℕ) → upwards n (suc count) ≡ upwards n count ++ (n + count) ∷ []
upwards-suc n zero = ap (λ k. k ∷ []) (omega arith)
upwards-suc n (suc count) =
    ap (λ rest. n ∷ rest) (upwards-suc (n + 1) count ∙ ap (λ k. upwards (n + 1) count ++ k ∷ []) (omega arith))

pub upwards-more : (n count : ℕ) → upwards n (count + 1) ≡ upwards n count ++ (n + count) ∷ []
upwards-more n count = rw add-one (upwards-suc n count)

pub length-upwards : (n count : ℕ) → length (upwards n count) ≡ count
length-upwards n zero = refl
length-upwards n (suc count) = ap (λ k. suc k) (length-upwards (n + 1) count)

-- one number more is below n + 1
pub below-more : (n : ℕ) → below (n + 1) ≡ below n ++ n ∷ []
unfolding below
below-more n = upwards-more 0 n ∙ ap (λ k. upwards 0 n ++ k ∷ []) (omega arith)

pub length-below : (n : ℕ) → length (below n) ≡ n
unfolding below
length-below n = length-upwards 0 n

-- ---- x after more and more values

pub x_after-none : (x : ℕ) → x_after 0 x ≡ x
unfolding x_after
x_after-none x = refl

pub x_after-more : (count x : ℕ) → x_after (count + 1) x ≡ next_x (x_after count x)
unfolding x_after
x_after-more count x = rw add-one refl

pub x_after-add : (m n x : ℕ) → x_after n (x_after m x) ≡ x_after (m + n) x
unfolding x_after
x_after-add m zero x = ap (λ n. x_after n x) (omega arith)
x_after-add m (suc n) x = ap next_x (x_after-add m n x) ∙ ap (λ k. x_after k x) (sym (add-suc m n))

-- ---- numbered lines

pub length-numbered : (n : ℕ) (js : List Job) → length (numbered n js) ≡ length js
length-numbered n [] = refl
length-numbered n (j ∷ js) = ap (λ k. suc k) (length-numbered (n + 1) js)

pub numbered-append : (n : ℕ) (js ks : List Job) → numbered n (js ++ ks) ≡ numbered n js ++ numbered (n + length js) ks
numbered-append n [] ks = ap (λ k. numbered k ks) (omega arith)
numbered-append n (j ∷ js) ks =
    ap (λ ls. line_with n j ∷ ls)
    (numbered-append (n + 1) js ks ∙ ap (λ k. numbered (n + 1) js ++ numbered k ks) (omega arith))

-- ---- lines that are made

-- none are
pub Asks-none : (a : Making) → Asks a a [] 0
Asks-none a = record { lines = sym (append-nil (lines_shown a.tasks.items)); next = omega arith; x = sym (x_after-none a.x) }

-- some, and then others
pub Asks-join : (a b c : Making) (js ks : List Job) (m n : ℕ) → Asks a b js m → Asks b c ks n → Asks a c (js ++ ks) (m + n)
Asks-join a b c js ks m n first then =
    record {
      lines =
          then.lines ∙ ap (λ ls. ls ++ numbered b.line ks) first.lines
          ∙ append_assoc (lines_shown a.tasks.items) (numbered a.line js) (numbered b.line ks)
          ∙ ap (λ k. lines_shown a.tasks.items ++ (numbered a.line js ++ numbered k ks)) first.next
          ∙ ap (λ ls. lines_shown a.tasks.items ++ ls) (sym (numbered-append a.line js ks));
      next = omega (arith, first.next, then.next, length-append js ks);
      x = then.x ∙ ap (x_after n) first.x ∙ x_after-add m n a.x;
    }

-- a value is taken
pub Asks-value : (a b c : Making) (js : List Job) (m : ℕ) → Asks a b js m → c ≡ record b { x = next_x b.x } → Asks a c js (m + 1)
Asks-value a b c js m asks taken =
    record {
      lines = ap (λ (d : Making). lines_shown d.tasks.items) taken ∙ asks.lines;
      next = ap (λ (d : Making). d.line) taken ∙ asks.next;
      x = ap (λ (d : Making). d.x) taken ∙ ap next_x asks.x ∙ sym (x_after-more m a.x);
    }

-- where the lines are that come next
pub asks-line : (a b : Making) (js : List Job) (m : ℕ) → Asks a b js m → b.line ≡ a.line + length js
asks-line a b js m asks = asks.next

-- it is the value with the number of values taken before
pub value-is : (a b c : Making) (js : List Job) (m : ℕ) → Asks a b js m → c ≡ record b { x = next_x b.x } → value_of c.x ≡ value_at m a.x
value-is a b c js m asks taken =
    ap (λ (d : Making). value_of d.x) taken ∙ ap (λ x. value_of (next_x x)) asks.x ∙ ap value_of (sym (x_after-more m a.x))

-- ---- a line for each number below i

pub map-below-none : (f : ℕ → Job) → map f (below 0) ≡ []
unfolding below
map-below-none f = refl

pub map-below-more : (f : ℕ → Job) (i : ℕ) → map f (below (i + 1)) ≡ map f (below i) ++ f i ∷ []
map-below-more f i = ap (map f) (below-more i) ∙ map-append f (below i) (i ∷ [])

pub length-map-below : (f : ℕ → Job) (i : ℕ) → length (map f (below i)) ≡ i
length-map-below f i = length-map (below i) f ∙ length-below i

pub each-none : (f : ℕ → Job) (a : Making) → Asks a a (map f (below 0)) 0
each-none f a = subst (λ js. Asks a a js 0) (sym (map-below-none f)) (Asks-none a)

-- none, behind one value
pub each-none_valued : (f : ℕ → Job) (a b : Making) → b ≡ record a { x = next_x a.x } → Asks a b (map f (below 0)) 1
each-none_valued f a b taken =
    subst (λ js. Asks a b js 1) (sym (map-below-none f)) (Asks-value a a b [] 0 (Asks-none a) taken)

-- where the lines are that come next
pub each-line : (f : ℕ → Job) (a b : Making) (i m : ℕ) → Asks a b (map f (below i)) m → b.line ≡ a.line + i
each-line f a b i m asks = asks.next ∙ ap (λ k. a.line + k) (length-map-below f i)

-- one line more
pub each-more : (f : ℕ → Job) (a b c : Making) (i m : ℕ) (j : Job) → Asks a b (map f (below i)) m → Asks b c (j ∷ []) 0 → j ≡ f i
    → Asks a c (map f (below (i + 1))) m
each-more f a b c i m j asks one is =
    let same : map f (below i) ++ j ∷ [] ≡ map f (below (i + 1)) =
    ap (λ k. map f (below i) ++ k ∷ []) is ∙ sym (map-below-more f i) in
    let P : List Job → Type 0 = λ js. Asks a c js (m + 0) in
    let Q : ℕ → Type 0 = λ n. Asks a c (map f (below (i + 1))) n in
    subst Q (omega arith) (subst P same (Asks-join a b c (map f (below i)) (j ∷ []) m 0 asks one))

-- the same, where each line has a value of its own
pub each-next : (f : ℕ → ℕ → Job) (a b c d : Making) (i value : ℕ) (j : Job) → Asks a b (map (λ k. f k (value_at k a.x)) (below i)) i
    → c ≡ record b { x = next_x b.x } → value ≡ value_of c.x → Asks c d (j ∷ []) 0 → j ≡ f i value
    → Asks a d (map (λ k. f k (value_at k a.x)) (below (i + 1))) (i + 1)
each-next f a b c d i value j asks taken is_value one is =
    each-more (λ k. f k (value_at k a.x)) a c d i (i + 1) j (Asks-value a b c _ i asks taken) one
    (is ∙ ap (f i) (is_value ∙ value-is a b c _ i asks taken))

-- ---- two lines for each number below k

pub flat_map-below-none : {X : Type 0} (g : ℕ → List X) → flat_map g (below 0) ≡ []
unfolding below
flat_map-below-none g = refl

pub flat_map-below-more : {X : Type 0} (g : ℕ → List X) (k : ℕ) → flat_map g (below (k + 1)) ≡ flat_map g (below k) ++ g k
flat_map-below-more g k =
    ap (flat_map g) (below-more k) ∙ flat_map-append g (below k) (k ∷ []) ∙ ap (λ js. flat_map g (below k) ++ js) (append-nil (g k))

pub length-pairs : (g : ℕ → Job) (h : ℕ → Job) (k : ℕ) → length (flat_map (λ k. g k ∷ h k ∷ []) (below k)) ≡ 2 * k
unfolding below
length-pairs g h k = pairs 0 k
  where
    pairs : (n count : ℕ) → length (flat_map (λ k. g k ∷ h k ∷ []) (upwards n count)) ≡ 2 * count
    pairs n zero = refl
    pairs n (suc count) = omega (arith, pairs (n + 1) count)

pub pairs-none : (g h : ℕ → Job) (a : Making) → Asks a a (flat_map (λ k. g k ∷ h k ∷ []) (below 0)) 0
unfolding below
pairs-none g h a = Asks-none a

-- where the lines are that come next
pub pairs-line : (g h : ℕ → Job) (a b : Making) (k m : ℕ) → Asks a b (flat_map (λ k. g k ∷ h k ∷ []) (below k)) m → b.line ≡ a.line + 2 * k
pairs-line g h a b k m asks = asks.next ∙ ap (λ n. a.line + n) (length-pairs g h k)

-- two lines more
pub pairs-more : (g h : ℕ → Job) (a b c d : Making) (k : ℕ) (i j : Job) → Asks a b (flat_map (λ k. g k ∷ h k ∷ []) (below k)) 0
    → Asks b c (i ∷ []) 0 → Asks c d (j ∷ []) 0 → i ≡ g k → j ≡ h k → Asks a d (flat_map (λ k. g k ∷ h k ∷ []) (below (k + 1))) 0
pairs-more g h a b c d k i j asks one other is_i is_j =
    let pairs : ℕ → List Job = λ n. flat_map (λ k. g k ∷ h k ∷ []) (below n) in
    let same : pairs k ++ i ∷ j ∷ [] ≡ pairs (k + 1) =
    ap (λ x. pairs k ++ x ∷ j ∷ []) is_i ∙ ap (λ x. pairs k ++ g k ∷ x ∷ []) is_j
    ∙ sym (flat_map-below-more (λ k. g k ∷ h k ∷ []) k) in
    let P : List Job → Type 0 = λ js. Asks a d js 0 in
    subst P same (Asks-join a b d (pairs k) (i ∷ j ∷ []) 0 0 asks (Asks-join b c d (i ∷ []) (j ∷ []) 0 0 one other))
