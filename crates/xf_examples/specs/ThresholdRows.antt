-- Worked rows on the thresholds, and on which policies are found by exact match.
use Rattle.std.specs.Prelude.{◌≡◌, ℕ, Bool, [], ◌∷◌, None, Some, ◌≤◌, refl, true, false}
use Rattle.std.specs.Option.{ForSome}
use Rattle.std.proofs.Common.{lit≤, subst}
use Rattle.std.proofs.lemmas.Option.{same_Some}
use Rattle.xf_types.specs.declared.network.Addr.TheVariants.{V6}
use Rattle.xf_types.specs.declared.network.Dir.{Dir}
use Rattle.xf_types.specs.declared.network.Dir.TheVariants.{In, Out, Fwd}
use Rattle.xf_types.specs.declared.network.Prefix.{Prefix}
use Rattle.xf_types.specs.declared.network.Selector.{Selector}
use Rattle.xf_types.specs.declared.network.Ptype.TheVariants.{Main}
use Rattle.xf_types.specs.declared.policy.Action.TheVariants.{Block}
use Rattle.xf_types.specs.declared.policy.Thresholds.{Thresholds}
use Rattle.xf_types.specs.declared.call.Call.TheVariants as call
use Rattle.xf_types.specs.declared.call.Reply.TheVariants as reply
use Rattle.xf_types.specs.Machine.{Shown}
use Rattle.xf_types.specs.ExactPart.{is_exact}
use Rattle.xf_examples.specs.Words.{replies, after, usual, ten_to_lab, policy_to}
use Rattle.xf_examples.specs.PolicyWords.{asked, ten_at, listed, host, server, outward}

-- a length that is given is in its range
pub fits : (part : ℕ × ℕ → ℕ) (lens : ℕ × ℕ) (greatest : ℕ) → part lens ≤ greatest → ForSome (Some lens) (λ x. part x ≤ greatest)
fits part lens greatest le x e = subst (λ (y : ℕ × ℕ). part y ≤ greatest) (same_Some lens x e) le

pub none_given : (part : ℕ × ℕ → ℕ) (greatest : ℕ) → ForSome None (λ x. part x ≤ greatest)
none_given part greatest x e = absurd cc

-- hthresh4 8 0, and hthresh6 64 48
abbrev pub set_v4 : Thresholds
set_v4 =
    record {
      v4 = Some (8, 0);
      v6 = None;
      facts =
          record {
            local4 = fits (λ x. x.0) (8, 0) 32 (lit≤ tt);
            remote4 = fits (λ x. x.1) (8, 0) 32 (lit≤ tt);
            local6 = none_given (λ x. x.0) 128;
            remote6 = none_given (λ x. x.1) 128;
          };
    }

abbrev set_v6 : Thresholds
set_v6 =
    record {
      v4 = None;
      v6 = Some (64, 48);
      facts =
          record {
            local4 = none_given (λ x. x.0) 32;
            remote4 = none_given (λ x. x.1) 32;
            local6 = fits (λ x. x.0) (64, 48) 128 (lit≤ tt);
            remote6 = fits (λ x. x.1) (64, 48) 128 (lit≤ tt);
          };
    }

-- what is shown with these thresholds of IPv4
abbrev at : ℕ → ℕ → Shown
at local remote = record usual.shown { hthresh4 = (local, remote) }

-- a policy from a prefix of 8 bits to one of 24 is found by exact match
abbrev is_found : ℕ → ℕ → Dir → Bool
is_found local remote dir = is_exact (at local remote) (listed 1 9 (record (policy_to ten_to_lab 0) { dir = dir }))

-- from ::/0 to ::/0
abbrev everything_v6 : Selector
everything_v6 =
    let all : Prefix = record { addr = V6 0; len = 0; facts = record { fits = lit≤ tt; clean = refl } } in
    record { src = all; dst = all; proto = 0; sport = None; dport = None; facts = record { one_family = refl } }

pub record ThresholdRows : Type 0 where
  -- thresholds change no answer of a flow
  pub flow_stays :
      replies usual (ten_at 10 ∷ asked ∷ call.PolicySet set_v4 ∷ asked ∷ [])
      ≡ reply.DoneIndex 9 ∷ reply.FlowAllow 9 [] ∷ reply.Done ∷ reply.FlowAllow 9 [] ∷ []
  -- those that are given are set, and the others stay
  pub first_v4 : ◌≡◌ {A = ℕ × ℕ} usual.shown.hthresh4 (32, 32)
  pub first_v6 : ◌≡◌ {A = ℕ × ℕ} usual.shown.hthresh6 (128, 128)
  pub v4_given : (after usual (call.PolicySet set_v4 ∷ [])).shown ≡ record usual.shown { hthresh4 = (8, 0) }
  pub v6_given :
      (after usual (call.PolicySet set_v4 ∷ call.PolicySet set_v6 ∷ [])).shown
      ≡ record usual.shown { hthresh4 = (8, 0); hthresh6 = (64, 48) }
  -- for what goes out the source is local, and each prefix has to be long enough
  pub out : is_found 8 24 Out ≡ true
  pub out_local_short : is_found 9 24 Out ≡ false
  pub out_remote_short : is_found 8 25 Out ≡ false
  pub out_crossed : is_found 24 8 Out ≡ false
  -- for what comes in or is forwarded the destination is
  pub inward : is_found 24 8 In ≡ true
  pub inward_crossed : is_found 8 24 In ≡ false
  pub forward : is_found 24 8 Fwd ≡ true
  pub forward_crossed : is_found 8 24 Fwd ≡ false
  -- at first whole addresses alone are found so
  pub whole : is_exact usual.shown (listed 1 9 (outward host server refl 20 Main Block)) ≡ true
  pub not_whole : is_found 32 32 Out ≡ false
  -- each family has its own thresholds
  pub other_family : is_exact (at 0 0) (listed 1 9 (policy_to everything_v6 0)) ≡ false
  pub own_family : is_exact (record usual.shown { hthresh6 = (0, 0) }) (listed 1 9 (policy_to everything_v6 0)) ≡ true
