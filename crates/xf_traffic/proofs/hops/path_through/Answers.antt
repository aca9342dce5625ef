use Rattle.std.proofs.Common.{rules, arith, ℕ, ◌<◌, List, ◌∷◌, [], ◌++◌, length, take, ap, sym, ◌∙◌}
use Rattle.std.proofs.lemmas.List.{map_more}
use Rattle.xf_types.specs.declared.call.Hop.{Hop}
use Rattle.xf_traffic.specs.Paths.{hop_in, hops_in}
use Rattle.xf_traffic.proofs.Slots.{within_at}
use Rattle.xf_traffic.proofs.hops.path_through.Goals as goal

pub hop_at-hop-requires-clause-slot : goal.hop_at-hop-requires-clause-slot
hop_at-hop-requires-clause-slot g c =
    let below : c.path.slot-index < length c.args.slots.now = omega arith in
    within_at c.args.area.now.slots c.args.slots.now c.path.slot-index c.requires.within below

pub path-preserved : goal.path-preserved
path-preserved g c =
    let below : c.path.slot-index < length c.args.slots.now = omega arith in
    let one = c.hop_at-hop.ensures.loads in
    let so_far = c.path.invariant.loads in
    let len = c.push.ensures.len in
    let room = c.path.invariant.room in
    record {
      size = search rules;
      begun = search rules;
      rest = search rules;
      among = search rules;
      loads = omega (arith, one, so_far);
      room = omega (arith, len, room);
      hops = λ image h.
          let a = c.args.area.now in
          let xs : List ℕ = c.args.slots.now in
          c.push.ensures.items
          ∙ ap (λ (hs : List Hop). hs ++ (c.hop_at-hop.result ∷ [])) (c.path.invariant.hops image (c.hop_at-hop.ensures.among.among image h))
          ∙ ap (λ (x : Hop). hops_in a image (take c.path.slot-index xs) ++ (x ∷ [])) (c.hop_at-hop.ensures.answer image h)
          ∙ sym (map_more (hop_in a image) xs c.path.slot-index 0 below);
    }
