-- The records of policies and states.
use Rattle.std.specs.Prelude.{ℕ, List, [], ◌++◌, codes, decimal, Option, Some, None}
use Rattle.std.specs.List.{flat_map}
use Rattle.xf_types.specs.declared.network.Selector.{Selector}
use Rattle.xf_types.specs.declared.policy.Policy.{Policy}
use Rattle.xf_types.specs.declared.policy.Template.{Template}
use Rattle.xf_types.specs.declared.state.Sa.{Sa}
use Rattle.xf_types.specs.declared.state.SaSpec.{SaSpec}
use Rattle.xf_print.specs.Numbers.{flag_text}
use Rattle.xf_print.specs.Words.{dir_text, ptype_text, action_text, mode_text, level_text}
use Rattle.xf_print.specs.Selectors.{selector_text, mark_text, identity_text}
use Rattle.xf_print.specs.Limits.{limits_text}

-- a template of a policy
unfoldable pub template_text : Template → List ℕ
template_text t =
    codes " tmpl" ++ identity_text t.src t.dst t.proto t.spi ++ codes " mode " ++ mode_text t.mode
    ++ codes " reqid " ++ decimal t.reqid ++ codes " level " ++ level_text t.level

-- a policy's index, direction and kind
unfoldable pub policy_name_text : Policy → List ℕ
policy_name_text p =
    codes "policy " ++ decimal p.index ++ codes " dir " ++ dir_text p.spec.dir ++ codes " ptype " ++ ptype_text p.spec.ptype

-- what a policy does, and since when
unfoldable pub policy_rank_text : Policy → List ℕ
policy_rank_text p =
    codes " if_id " ++ decimal p.spec.if_id ++ codes " priority " ++ decimal p.spec.priority
    ++ codes " action " ++ action_text p.spec.action ++ codes " added " ++ decimal p.added

-- a policy's record
unfoldable pub policy_text : Policy → List ℕ
policy_text p =
    policy_name_text p ++ codes " " ++ selector_text p.spec.sel ++ mark_text p.spec.mark ++ policy_rank_text p
    ++ limits_text p.spec.limits ++ flat_map template_text p.spec.templates ++ flag_text (codes " soft") p.soft

-- the selector of a state, where it has one
unfoldable pub state_selector_text : Option Selector → List ℕ
state_selector_text None = []
state_selector_text (Some s) = codes " sel " ++ selector_text s

-- a state's id and what names it
unfoldable pub state_name_text : Sa → List ℕ
state_name_text s = codes "state " ++ decimal s.sid ++ identity_text s.spec.src s.spec.dst s.spec.proto s.spec.spi

-- how a state is chosen
unfoldable pub state_use_text : SaSpec → List ℕ
state_use_text s =
    codes " reqid " ++ decimal s.reqid ++ codes " mode " ++ mode_text s.mode ++ codes " seq " ++ decimal s.seq
    ++ mark_text s.mark ++ codes " if_id " ++ decimal s.if_id

-- a state's window, and when it was added
unfoldable pub state_window_text : Sa → List ℕ
state_window_text s = codes " replay-window " ++ decimal s.spec.window ++ codes " added " ++ decimal s.added

-- what a state was asked for beside its numbers
unfoldable pub state_flags_text : SaSpec → List ℕ
state_flags_text s = flag_text (codes " wildrecv") s.wildrecv ++ flag_text (codes " esn") s.esn

-- a state's record
unfoldable pub state_text : Sa → List ℕ
state_text s =
    state_name_text s ++ state_use_text s.spec ++ state_window_text s ++ state_flags_text s.spec
    ++ state_selector_text s.spec.sel ++ limits_text s.spec.limits ++ flag_text (codes " larval") s.larval ++ flag_text (codes " dying") s.dying
