-- Templates that are put are got, and those that are got were put; and how a loop goes through them.
use Rattle.std.proofs.Common.{◌≡◌, ℕ, zero, suc, ◌+◌, ◌-◌, ◌*◌, ◌<◌, ◌≤◌, length-append, true, List, [], ◌∷◌, ◌++◌, length, replicate, Option, None, Some, slice_index, refl, ap, sym, ◌∙◌, subst, arith}
use Rattle.std.specs.Str.{bytes_eq}
use Rattle.std.proofs.lemmas.List.{append_assoc}
use Rattle.std.proofs.lemmas.Slice.Eq.{bytes_eq-Decides}
use Rattle.std.proofs.lemmas.Option.{cond_some, none-some, same_Some}
use Rattle.xf_types.specs.declared.policy.Template.{Template}
use Rattle.xf_records.specs.Blocks.{fetched, stored, Stands}
use Rattle.xf_records.specs.Codes.{small_fits}
use Rattle.xf_records.specs.Parts.{template_words, template_of, TemplateFits}
use Rattle.xf_records.specs.Policies.{template_at, before, templates_at, templates_words, TemplatesFit, joined}
use Rattle.xf_records.proofs.BlockLaws.{stored_append, stands_front, stands_back, stands_both, fetched_size, fetched_same}
use Rattle.xf_records.proofs.CodeLaws.{small_is, proto_is, mode_is, level_is, addr_is, addr_fits}

pub template_size : (t : Template) → length (template_words t) ≡ 11
unfolding template_words
template_size t = refl

pub template_back : (t : Template) → TemplateFits t → template_of (template_words t) ≡ t
unfolding template_of template_words
template_back t f = λ i. record {
  src = addr_is t.src f.src i;
  dst = addr_is t.dst f.dst i;
  proto = proto_is t.proto i;
  spi = small_is t.spi f.spi i;
  mode = mode_is t.mode i;
  reqid = small_is t.reqid f.reqid i;
  level = level_is t.level i;
}

-- ---- a template

pub template_stands : (image : List ℕ) (at : ℕ) (t : Template) → TemplateFits t → Stands image at (template_words t)
    → template_at image at ≡ Some t
template_stands image at t f s =
    let w : fetched image at (replicate 11 0) ≡ template_words t =
    fetched_size image at (replicate 11 0) (template_words t) (sym (template_size t)) ∙ s in
    let e : bytes_eq (template_words t) (template_words t) ≡ true = (bytes_eq-Decides (template_words t) (template_words t)).1 refl in
    rw (w, template_back t f, e) refl

pub template_read : (image : List ℕ) (at : ℕ) (t : Template) → template_at image at ≡ Some t → Stands image at (template_words t)
template_read image at t h =
    let words : List ℕ = fetched image at (replicate 11 0) in
    let c : (bytes_eq (template_words (template_of words)) words ≡ true) × (template_of words ≡ t) = cond_some _ _ _ h in
    let e : template_words t ≡ words = ap template_words (sym c.1) ∙ (bytes_eq-Decides _ _).0 c.0 in
    fetched_size image at (template_words t) (replicate 11 0) (template_size t) ∙ sym e

-- ---- several templates

pub templates_stand : (image : List ℕ) (at : ℕ) (ts : List Template) → TemplatesFit ts → Stands image at (templates_words ts)
    → templates_at image at (length ts) ≡ Some ts
templates_stand image at [] f s = refl
templates_stand image at (t ∷ ts) f s =
    let a : template_at image at ≡ Some t = template_stands image at t f.0 (stands_front image at (template_words t) (templates_words ts) s) in
    let k : Stands image (at + 11) (templates_words ts) =
    subst (λ n. Stands image (at + n) (templates_words ts)) (template_size t) (stands_back image at (template_words t) (templates_words ts) s) in
    let b : templates_at image (at + 11) (length ts) ≡ Some ts = templates_stand image (at + 11) ts f.1 k in
    rw (a, b) refl

before_some : {P : Type 0} (o : Option Template) (os : Option (List Template)) (ts : List Template) → before o os ≡ Some ts
    → ((t : Template) (rest : List Template) → o ≡ Some t → os ≡ Some rest → t ∷ rest ≡ ts → P) → P
before_some None os ts h k = absurd (none-some ts h)
before_some (Some t) None ts h k = absurd (none-some ts h)
before_some (Some t) (Some rest) ts h k = k t rest refl refl (same_Some (t ∷ rest) ts h)

pub record ReadAs (image : List ℕ) (at count : ℕ) (ts : List Template) : Type 0 where
  pub size : count ≡ length ts
  pub words : Stands image at (templates_words ts)

pub templates_read : (image : List ℕ) (at count : ℕ) (ts : List Template) → templates_at image at count ≡ Some ts → ReadAs image at count ts
templates_read image at zero ts h = subst (ReadAs image at 0) (same_Some [] ts h) (record { size = refl; words = refl })
templates_read image at (suc more) ts h =
    before_some (template_at image at) (templates_at image (at + 11) more) ts h (λ t rest a b e.
    let r : ReadAs image (at + 11) more rest = templates_read image (at + 11) more rest b in
    let k : Stands image (at + length (template_words t)) (templates_words rest) =
    subst (λ n. Stands image (at + n) (templates_words rest)) (sym (template_size t)) r.words in
    subst (ReadAs image at (suc more)) e (record {
      size = ap suc r.size;
      words = stands_both image at (template_words t) (templates_words rest) (template_read image at t a) k;
    }))

pub templates_words-size : (ts : List Template) → length (templates_words ts) ≡ 11 * length ts
templates_words-size [] = refl
templates_words-size (t ∷ ts) =
    let a : length (template_words t ++ templates_words ts) ≡ length (template_words t) + length (templates_words ts) = length-append _ _ in
    let b : length (templates_words ts) ≡ 11 * length ts = templates_words-size ts in
    let k : length (template_words t) ≡ 11 = template_size t in
    omega arith

-- ---- what is got has the ranges of its types

template_fits : (words : List ℕ) → TemplateFits (template_of words)
unfolding template_of
template_fits words = record {
  src = addr_fits _ _ _;
  dst = addr_fits _ _ _;
  spi = small_fits _;
  reqid = small_fits _;
}

template_got_fits : (image : List ℕ) (at : ℕ) (t : Template) → template_at image at ≡ Some t → TemplateFits t
template_got_fits image at t h =
    let words : List ℕ = fetched image at (replicate 11 0) in
    let c : (bytes_eq (template_words (template_of words)) words ≡ true) × (template_of words ≡ t) = cond_some _ _ _ h in
    subst TemplateFits c.1 (template_fits words)

pub templates_got_fit : (image : List ℕ) (at count : ℕ) (ts : List Template) → templates_at image at count ≡ Some ts → TemplatesFit ts
templates_got_fit image at zero ts h = subst TemplatesFit (same_Some [] ts h) tt
templates_got_fit image at (suc more) ts h =
    before_some (template_at image at) (templates_at image (at + 11) more) ts h (λ t rest a b e.
    subst TemplatesFit e (template_got_fits image at t a, templates_got_fit image (at + 11) more rest b))

-- ---- other words

template_same : (i j : List ℕ) (at : ℕ) → ((q : ℕ) → at ≤ q → q < at + 11 → slice_index j q ≡ slice_index i q)
    → template_at j at ≡ template_at i at
template_same i j at f =
    let e : fetched j at (replicate 11 0) ≡ fetched i at (replicate 11 0) = fetched_same i j at (replicate 11 0) f in rw e refl

pub templates_same : (i j : List ℕ) (at count : ℕ) → ((q : ℕ) → at ≤ q → q < at + 11 * count → slice_index j q ≡ slice_index i q)
    → templates_at j at count ≡ templates_at i at count
templates_same i j at zero f = refl
templates_same i j at (suc more) f =
    let a : template_at j at ≡ template_at i at = template_same i j at (λ q l h. f q l (omega arith)) in
    let b : templates_at j (at + 11) more ≡ templates_at i (at + 11) more = templates_same i j (at + 11) more (λ q l h. f q (omega arith) (omega arith)) in
    rw (a, b) refl

-- ---- one more template was read, or the words gave none

joined_before : (items : List Template) (t : Template) (rest : Option (List Template)) → joined (items ++ (t ∷ [])) rest ≡ joined items (before (Some t) rest)
joined_before items t None = refl
joined_before items t (Some ts) = ap Some (append_assoc items (t ∷ []) ts)

templates_step : (image : List ℕ) (at count i : ℕ) → i < count
    → templates_at image at (count - i) ≡ before (template_at image at) (templates_at image (at + 11) (count - (i + 1)))
templates_step image at count i h =
    let e : count - i ≡ suc (count - (i + 1)) = omega arith in
    rw e refl

pub templates_more : (image : List ℕ) (items : List Template) (t : Template) (at count i : ℕ) → i < count → Some t ≡ template_at image at
    → joined (items ++ (t ∷ [])) (templates_at image (at + 11) (count - (i + 1))) ≡ joined items (templates_at image at (count - i))
templates_more image items t at count i h e =
    rw (templates_step image at count i h, sym e) (joined_before items t (templates_at image (at + 11) (count - (i + 1))))

pub templates_end : (image : List ℕ) (items : List Template) (at count i : ℕ) → i < count → None ≡ template_at image at
    → joined items (templates_at image at (count - i)) ≡ None
templates_end image items at count i h e = rw (templates_step image at count i h, sym e) refl

-- ---- one more template is put

pub stored_templates : (image : List ℕ) (at : ℕ) (t : Template) (rest all : List Template) → all ≡ t ∷ rest
    → stored (stored image at (template_words t)) (at + 11) (templates_words rest) ≡ stored image at (templates_words all)
stored_templates image at t rest all e =
    rw e (subst (λ n. stored (stored image at (template_words t)) (at + n) (templates_words rest) ≡ stored image at (template_words t ++ templates_words rest))
    (template_size t) (stored_append image at (template_words t) (templates_words rest)))

pub fit_templates : (t : Template) (rest all : List Template) → all ≡ t ∷ rest → TemplateFits t → TemplatesFit rest → TemplatesFit all
fit_templates t rest all e f r = rw e (f, r)
