-- A policy as words. What a lookup tests stands first, then what it chooses by, then the rest; the templates stand last, as
-- many as there are. Words behind the last template belong to no record.
--
--    0 direction    1 ptype         2 if_id         3 family        4, 5 source    6 its length   7, 8 destination   9 its length
--   10 protocol    11 sport        12 dport        13 mark         14 mask        15 priority    16 number
--   17 index       18 asked index  19 added        20 action       21 soft        22 to 33 limits                   34 templates
--   35 + 11 * k    template k
use Rattle.std.specs.Prelude.{⊤, ℕ, zero, suc, ◌+◌, ◌^◌, ◌<◌, ◌≤◌, List, [], ◌∷◌, ◌++◌, length, replicate, Option, None, Some, nat_le, if◌then◌else◌, slice_index, true}
use Rattle.std.specs.Str.{bytes_eq}
use Rattle.xf_types.specs.declared.policy.Policy.{Policy}
use Rattle.xf_types.specs.declared.policy.Template.{Template}
use Rattle.xf_types.specs.Same.{dir_number, ptype_number, action_number}
use Rattle.xf_records.specs.Blocks.{fetched}
use Rattle.xf_records.specs.Codes.{small_in, flag_word, flag_in, dir_in, ptype_in, action_in}
use Rattle.xf_records.specs.Parts.{selector_words, selector_of, SelectorFits, limits_words, limits_of, template_words, template_of, TemplateFits}

-- the words before the number of templates
unfoldable pub plain_words : Policy → List ℕ
plain_words p =
    dir_number p.spec.dir ∷ ptype_number p.spec.ptype ∷ p.spec.if_id
    ∷ (selector_words p.spec.sel
    ++ (p.spec.mark.value ∷ p.spec.mark.mask ∷ p.spec.priority ∷ p.number
    ∷ p.index ∷ p.spec.index ∷ p.added ∷ action_number p.spec.action ∷ flag_word p.soft
    ∷ limits_words p.spec.limits))

-- the policy that they give, with these templates
unfoldable pub policy_of : List ℕ → List Template → Policy
policy_of words templates =
    record {
      number = slice_index words 16;
      index = small_in (slice_index words 17);
      added = slice_index words 19;
      soft = flag_in (slice_index words 21);
      spec = record {
        dir = dir_in (slice_index words 0);
        ptype = ptype_in (slice_index words 1);
        sel = selector_of words 3;
        mark = record { value = small_in (slice_index words 13); mask = small_in (slice_index words 14) };
        if_id = small_in (slice_index words 2);
        priority = small_in (slice_index words 15);
        action = action_in (slice_index words 20);
        index = small_in (slice_index words 18);
        limits = limits_of words 22;
        templates = templates;
      };
    }

-- what the types of its fields say of these words
pub record PlainFits (p : Policy) : Type 0 where
  pub if_id : p.spec.if_id < 2 ^ 32
  pub sel : SelectorFits p.spec.sel
  pub value : p.spec.mark.value < 2 ^ 32
  pub mask : p.spec.mark.mask < 2 ^ 32
  pub priority : p.spec.priority < 2 ^ 32
  pub index : p.index < 2 ^ 32
  pub asked : p.spec.index < 2 ^ 32

-- the template that stands at a place: the one that its words give, where these are its words
abbrev pub template_at : List ℕ → ℕ → Option Template
template_at image at =
    let words = fetched image at (replicate 11 0) in
    if bytes_eq (template_words (template_of words)) words then Some (template_of words) else None

-- one more template before those that there are
abbrev pub before : Option Template → Option (List Template) → Option (List Template)
before (Some t) (Some ts) = Some (t ∷ ts)
before (Some t) None = None
before None ts = None

-- as many templates as are asked for, from a place on
abbrev pub templates_at : List ℕ → ℕ → ℕ → Option (List Template)
templates_at image at zero = Some []
templates_at image at (suc more) = before (template_at image at) (templates_at image (at + 11) more)

-- the templates that were read before those that there are
abbrev pub joined : List Template → Option (List Template) → Option (List Template)
joined earlier None = None
joined earlier (Some ts) = Some (earlier ++ ts)

-- the words of templates, one after the other
abbrev pub templates_words : List Template → List ℕ
templates_words [] = []
templates_words (t ∷ ts) = template_words t ++ templates_words ts

-- what the types of its fields say of each template
abbrev pub TemplatesFit : List Template → Type 0
TemplatesFit [] = ⊤
TemplatesFit (t ∷ ts) = TemplateFits t × TemplatesFit ts

-- what the types of its fields say of a policy
pub record PolicyFits (p : Policy) : Type 0 where
  pub plain : PlainFits p
  pub templates : TemplatesFit p.spec.templates
  pub count : length p.spec.templates ≤ 6

-- as many templates as a count says, at most 6
abbrev pub templates_counted : List ℕ → ℕ → ℕ → Option (List Template)
templates_counted image at count = if nat_le count 6 then templates_at image at count else None

-- a policy's words
abbrev pub policy_words : Policy → List ℕ
policy_words p = plain_words p ++ (length p.spec.templates ∷ templates_words p.spec.templates)

-- the policy of these words with these templates, where these are its words
abbrev pub checked : List ℕ → Option (List Template) → Option Policy
checked words None = None
checked words (Some ts) = if bytes_eq (plain_words (policy_of words ts)) words then Some (policy_of words ts) else None

-- the policy that stands at a place
abbrev pub policy_at : List ℕ → ℕ → Option Policy
policy_at image at =
    checked (fetched image at (replicate 34 0)) (templates_counted image (at + 35) (slice_index image (at + 34)))

-- the policy, warned of
abbrev pub warned : Policy → Policy
warned p = record p { soft = true }
