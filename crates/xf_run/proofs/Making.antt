-- What calls made one after another come to.
use Rattle.std.proofs.Common.{◌≡◌, ℕ, ◌+◌, ◌<◌, Bool, true, false, ◌||◌, List, [], ◌∷◌, ◌++◌, length, take, get_or, refl, sym, ap, ◌∙◌, arith}
use Rattle.std.proofs.lemmas.List.{take_more, length-take-le}
use Rattle.std.proofs.lemmas.List.Folds.{list_any-append}
use Rattle.xf_types.specs.declared.call.Call.{Call}
use Rattle.xf_types.specs.declared.call.Call.TheVariants as call
use Rattle.xf_types.specs.declared.call.Hop.{Hop}
use Rattle.xf_types.specs.declared.call.Place.{Place}
use Rattle.xf_types.specs.declared.call.Reply.{Reply}
use Rattle.xf_types.specs.declared.network.Flow.{Flow}
use Rattle.xf_types.specs.Batch.{One, Send, path_of}
use Rattle.xf_types.specs.Codes.{is_refusal_of}
use Rattle.xf_types.specs.Machine.{Machine}
use Rattle.xf_run.specs.Progress.{MakesCall, Makes, MakesOutputs, MakesLine}
use Rattle.xf_run.specs.Heard.{Heard, hear, hears}
use Rattle.xf_run.specs.Turns.{Turn, is_refused}
use Rattle.xf_run.proofs.Turning.{Lead-join, AreOutputs-renumber, AreOutputs-more, output_turn}

-- the turn of a call
abbrev pub turn_of : Place → Call → Reply → Turn
turn_of at c reply = record { at = at; call = c; reply = reply }

or_false : (b : Bool) → (b || false) ≡ b
or_false true = refl
or_false false = refl

-- the replies of more turns
pub hears-join : (h : Heard) (xs ys : List Turn) → hears h (xs ++ ys) ≡ hears (hears h xs) ys
hears-join h [] ys = refl
hears-join h (x ∷ xs) ys = hears-join (hear h x.at x.reply) xs ys

-- one call is one turn
made_one : (m n : Machine) (at : Place) (c : Call) (reply : Reply) (old new : Heard) → MakesCall m n at c reply old new
    → Makes m n (turn_of at c reply ∷ []) (is_refusal_of reply) old new
made_one m n at c reply old new k = record {
  lead = (n, k.may, refl);
  refusal = or_false (is_refusal_of reply);
  heard = k.heard;
}

-- turns behind turns
made_join : (m mid n : Machine) (xs ys : List Turn) (refused refusal : Bool) (old text new : Heard) → Makes m mid xs refused old text
    → Makes mid n ys refusal text new → Makes m n (xs ++ ys) (refused || refusal) old new
made_join m mid n xs ys refused refusal old text new a b = record {
  lead = Lead-join m mid n xs ys a.lead b.lead;
  refusal =
      list_any-append (λ (t : Turn). is_refusal_of t.reply) xs ys
      ∙ ap (λ (r : Bool). r || is_refused ys) a.refusal
      ∙ ap (λ (r : Bool). refused || r) b.refusal;
  heard = b.heard ∙ ap (λ (x : Heard). hears x ys) a.heard ∙ sym (hears-join old xs ys);
}

-- no output was made yet
pub outputs_none : (m : Machine) (line len : ℕ) (text : Heard) → MakesOutputs m m line len [] false text text
outputs_none m line len text =
    record { turns = []; outputs = tt; made = record { lead = refl; refusal = refl; heard = refl } }

-- one more output is made
pub outputs_more : (hops : List Hop) (i : ℕ) (any : Hop) (before m n : Machine) (line part len : ℕ) (reply : Reply) (refused : Bool)
    (old text new : Heard) → i < length hops → part ≡ i + 1
    → MakesOutputs before m line len (take i hops) refused old text
    → MakesCall m n (record { line = line; part = part }) (call.Output (get_or hops i any).sid len) reply text new
    → MakesOutputs before n line len (take (i + 1) hops) (refused || is_refusal_of reply) old new
outputs_more hops i any before m n line part len reply refused old text new lt p s k =
    let hop : Hop = get_or hops i any in
    let at : Place = record { line = line; part = part } in
    let t : Turn = output_turn line part len hop reply in
    let count : length (take i hops) ≡ i = length-take-le i hops (omega arith) in
    record {
      turns = s.turns ++ t ∷ [];
      outputs =
          rw (take_more hops i any lt)
          (AreOutputs-more line 1 part len 0 (take i hops) s.turns hop reply (omega (arith, count, p)) s.outputs);
      made =
          made_join before m n s.turns (t ∷ []) refused (is_refusal_of reply) old text new s.made
          (made_one m n at (call.Output hop.sid len) reply text new k);
    }

-- a flow and its outputs are the calls of a send
pub send_made : (line len : ℕ) (flow : Flow) (m mid n : Machine) (reply : Reply) (refused : Bool) (old text new : Heard)
    → MakesCall m mid (record { line = line; part = 0 }) (call.Flow flow) reply old text
    → MakesOutputs mid n line len (path_of reply) refused text new
    → MakesLine m n (Send line flow len) (is_refusal_of reply || refused) old new
send_made line len flow m mid n reply refused old text new k o =
    let at : Place = record { line = line; part = 0 } in
    let t : Turn = turn_of at (call.Flow flow) reply in
    record {
      turns = t ∷ o.turns;
      run = (
        record { at_line = refl; at_part = refl; of_call = refl },
        AreOutputs-renumber line 1 len (path_of reply) o.turns 0 1 o.outputs,
      );
      made =
          made_join m mid n (t ∷ []) o.turns (is_refusal_of reply) refused old text new
          (made_one m mid at (call.Flow flow) reply old text k) o.made;
    }

-- one call is all of its line
pub one_made : (line : ℕ) (c : Call) (m n : Machine) (reply : Reply) (old new : Heard)
    → MakesCall m n (record { line = line; part = 0 }) c reply old new → MakesLine m n (One line c) (is_refusal_of reply) old new
one_made line c m n reply old new k = record {
  turns = turn_of (record { line = line; part = 0 }) c reply ∷ [];
  run = record { at_line = refl; at_part = refl; of_call = refl };
  made = made_one m n (record { line = line; part = 0 }) c reply old new k;
}
