-- How many states the walks of the templates may meet, template after template.
use Rattle.std.proofs.Common.{◌≡◌, ℕ, ◌+◌, ◌<◌, true, false, List, ◌∷◌, None, Some, length, get_or, drop, ap, sym, ◌∙◌, arith, drop-cons, add-one}
use Rattle.xf_types.specs.declared.network.Addr.{Addr}
use Rattle.xf_types.specs.declared.network.Flow.{Flow}
use Rattle.xf_types.specs.declared.policy.Template.{Template}
use Rattle.xf_types.specs.declared.state.Sa.{Sa}
use Rattle.xf_types.specs.Candidates.{best_for}
use Rattle.xf_types.specs.Resolution.{is_optional}
use Rattle.xf_index.specs.Indexes.{records_in}
use Rattle.xf_index.specs.Finds.{slot_found}
use Rattle.xf_sadidx.specs.declared.area.StateArea.{StateArea}
use Rattle.xf_sadidx.specs.declared.kind.Kind.TheVariants.{Route}
use Rattle.xf_sadidx.specs.declared.query.StateQuery.TheVariants.{Candidate}
use Rattle.xf_sadidx.specs.Bests.{best_in}
use Rattle.xf_sadidx.specs.Founds.{bucket_size}
use Rattle.xf_sadidx.specs.Keys.{route_hash}
use Rattle.xf_sadidx.specs.Queries.{meets}
use Rattle.xf_sadfind.specs.declared.used.Ends.{Ends}
use Rattle.xf_sadfind.specs.Tried.{ends_used, met_after, states_met}
use Rattle.xf_sadfind.proofs.Listings.{IsBest, best_there, best_none}

module _ (a : StateArea) (image : List ℕ) (es : List (ℕ × Sa)) (flow : Flow) (ts : List Template) (i : ℕ) (src dst : Addr) (d : Template) (used : Ends)
    (within : i < length ts) (is : used ≡ ends_used (get_or ts i d) src dst) where
  -- by the template at a place as it is used
  met_at : states_met a image es flow (drop i ts) src dst
      ≡ bucket_size a image Route (route_hash used.dst (get_or ts i d).reqid) es
      + met_after (best_for (records_in es) (get_or ts i d) flow used.src used.dst) (is_optional (get_or ts i d).level)
      (states_met a image es flow (drop (i + 1) ts) used.src used.dst) (states_met a image es flow (drop (i + 1) ts) src dst)
  met_at =
      ap (λ us. states_met a image es flow us src dst) (drop-cons ts i d within ∙ ap (λ n. get_or ts i d ∷ drop n ts) (sym (add-one i)))
      ∙ ap (λ (u : Ends). bucket_size a image Route (route_hash u.dst (get_or ts i d).reqid) es
      + met_after (best_for (records_in es) (get_or ts i d) flow u.src u.dst) (is_optional (get_or ts i d).level)
      (states_met a image es flow (drop (i + 1) ts) u.src u.dst) (states_met a image es flow (drop (i + 1) ts) src dst)) (sym is)

  pub met_used : (slot : ℕ) → Some slot ≡ slot_found (best_in (meets (Candidate (get_or ts i d) flow used.src used.dst)) es)
      → states_met a image es flow (drop i ts) src dst
      ≡ bucket_size a image Route (route_hash used.dst (get_or ts i d).reqid) es + states_met a image es flow (drop (i + 1) ts) used.src used.dst
  met_used slot found =
      let best : IsBest (meets (Candidate (get_or ts i d) flow used.src used.dst)) es slot = best_there (meets (Candidate (get_or ts i d) flow used.src used.dst)) es slot found in
      met_at
      ∙ ap (λ o. bucket_size a image Route (route_hash used.dst (get_or ts i d).reqid) es
      + met_after o (is_optional (get_or ts i d).level)
      (states_met a image es flow (drop (i + 1) ts) used.src used.dst) (states_met a image es flow (drop (i + 1) ts) src dst)) best.best

  pub met_skipped : None ≡ slot_found (best_in (meets (Candidate (get_or ts i d) flow used.src used.dst)) es) → is_optional (get_or ts i d).level ≡ true
      → states_met a image es flow (drop i ts) src dst
      ≡ bucket_size a image Route (route_hash used.dst (get_or ts i d).reqid) es + states_met a image es flow (drop (i + 1) ts) src dst
  met_skipped none optional =
      met_at
      ∙ ap (λ o. bucket_size a image Route (route_hash used.dst (get_or ts i d).reqid) es
      + met_after o (is_optional (get_or ts i d).level)
      (states_met a image es flow (drop (i + 1) ts) used.src used.dst) (states_met a image es flow (drop (i + 1) ts) src dst))
      (best_none (meets (Candidate (get_or ts i d) flow used.src used.dst)) es none)
      ∙ ap (λ b. bucket_size a image Route (route_hash used.dst (get_or ts i d).reqid) es
      + met_after None b
      (states_met a image es flow (drop (i + 1) ts) used.src used.dst) (states_met a image es flow (drop (i + 1) ts) src dst)) optional

  pub met_missing : None ≡ slot_found (best_in (meets (Candidate (get_or ts i d) flow used.src used.dst)) es) → is_optional (get_or ts i d).level ≡ false
      → states_met a image es flow (drop i ts) src dst ≡ bucket_size a image Route (route_hash used.dst (get_or ts i d).reqid) es
  met_missing none required =
      met_at
      ∙ ap (λ o. bucket_size a image Route (route_hash used.dst (get_or ts i d).reqid) es
      + met_after o (is_optional (get_or ts i d).level)
      (states_met a image es flow (drop (i + 1) ts) used.src used.dst) (states_met a image es flow (drop (i + 1) ts) src dst))
      (best_none (meets (Candidate (get_or ts i d) flow used.src used.dst)) es none)
      ∙ ap (λ b. bucket_size a image Route (route_hash used.dst (get_or ts i d).reqid) es
      + met_after None b
      (states_met a image es flow (drop (i + 1) ts) used.src used.dst) (states_met a image es flow (drop (i + 1) ts) src dst)) required
      ∙ (let z : bucket_size a image Route (route_hash used.dst (get_or ts i d).reqid) es + 0 ≡ bucket_size a image Route (route_hash used.dst (get_or ts i d).reqid) es = omega arith in z)
