-- What one thread does is a list of histories, one for each phase: the receipts of a phase have the numbers from 0 on, and each reply is
-- one that the machine may give where it stands.
use Rattle.std.proofs.Common.{◌≡◌, ◌≢◌, ◌⊎◌, inl, inr, ℕ, zero, suc, ◌+◌, ◌<◌, ◌||◌, true, false, List, [], ◌∷◌, ◌++◌, All, map, refl, sym, ap, subst, ◌∙◌, arith}
use Rattle.std.specs.Prelude.{nat_lt, AllPairs, option_to_list}
use Rattle.std.proofs.lemmas.Grind.{flat_map-append}
use Rattle.std.proofs.lemmas.List.Elements.{All-nil, All-cons, All-append}
use Rattle.std.proofs.lemmas.List.Folds.{list_any-append}
use Rattle.std.proofs.lemmas.Bool.{lt-ltb}
use Rattle.xf_types.specs.declared.call.Receipt.{Receipt}
use Rattle.xf_types.specs.declared.call.Reply.{Reply}
use Rattle.xf_types.specs.declared.call.Reply.TheVariants as reply
use Rattle.xf_types.specs.Acceptance.{Accepting, AcceptsOnce, accepting_of, acceptings}
use Rattle.xf_types.specs.Codes.{is_refusal_of}
use Rattle.xf_types.specs.Machine.{Machine, Outcome}
use Rattle.xf_types.specs.Steps.{step, empty}
use Rattle.xf_types.specs.Batch.{WorkerLine, Runs, IsShuffle, calls_of_thread, threads_of, receipts_of}
use Rattle.xf_types.specs.History.{is_contended, is_exception, Moment, beginning, machine_next, next_moment, moment_of, MayReply, IsLegalFrom, IsLegalHistory, AreLegalHistories, IsIncreasing, IsUncontended, has_refusal, joined}
use Rattle.xf_laws.proofs.AcceptLemmas.{accepts-once}
use Rattle.xf_laws.proofs.KeepLemmas.{empty-is}
use Rattle.xf_print.specs.Receipts.{text_of, receipt_text}
use Rattle.xf_run.specs.Outcome.{AreHistoriesOf}
use Rattle.xf_run.specs.Turns.{Turn, MayAnswer, Lead, receipt_of, receipts_from, turns_text, is_refused}
use Rattle.xf_run.proofs.Turning.{Lead-join, text_of-turns, has_refusal-turns, text_join}
use Rattle.xf_run.proofs.Phasing.{Leads, AreRuns, histories_of, all_turns}

memory_or_not : (r : Reply) → (r ≡ reply.NoMemory) ⊎ (r ≢ reply.NoMemory)
memory_or_not reply.NoMemory = inl refl
memory_or_not _ = inr (λ e. absurd cc)

exception_is : (r : Reply) → r ≢ reply.NoMemory → is_contended r ≡ false → is_exception r ≡ false
exception_is reply.NoMemory h s = absurd (h refl)
exception_is _ h s = s

-- the machine after a receipt is the one that was told
machine_next-is : (before after : Machine) (r : Receipt) → MayAnswer before after r.call r.reply → machine_next before r ≡ after
machine_next-is before after r may =
    elim (memory_or_not r.reply) [
      | inl e ↦ rw (e) (sym (may.memory e))
      | inr h ↦ rw (exception_is r.reply h may.settled) (sym (ap (λ (o : Outcome). o.machine) (may.answer h)))
    ]

-- the reply may stand where its machine stands
may_stand : (t : Moment) (r : Receipt) (a : Reply) → is_contended a ≡ false
    → (a ≢ reply.NoMemory → a ≡ (step t.machine r.call).reply) → MayReply t r a
may_stand t r (reply.Again tries) s h = absurd cc
may_stand t r reply.NoMemory s h = tt
may_stand t r (reply.Full live zero) s h = h (λ e. absurd cc)
may_stand t r (reply.Full live (suc waiting)) s h =
    let more : nat_lt 0 (suc waiting) ≡ true = lt-ltb 0 (suc waiting) (omega arith) in
    absurd (cc (s, more))
may_stand t r _ s h = h (λ e. absurd cc)

legal-from : (n : ℕ) (t : Moment) (m end : Machine) (ts : List Turn) → t.machine ≡ m → Lead m ts end
    → IsLegalFrom t (receipts_from n ts)
legal-from n t m end [] e lead = tt
legal-from n t m end (x ∷ ts) e lead =
    let r : Receipt = receipt_of n x in
    let may : MayAnswer t.machine lead.0 x.call x.reply =
    subst (λ (k : Machine). MayAnswer k lead.0 x.call x.reply) (sym e) lead.1
    in (
      may_stand t r x.reply may.settled (λ h. ap (λ (o : Outcome). o.reply) (may.answer h)),
      legal-from (n + 1) (next_moment t r) lead.0 end ts (machine_next-is t.machine lead.0 r may) lead.2,
    )

increasing : (n : ℕ) (ts : List Turn) → IsIncreasing (receipts_from n ts)
increasing n [] = tt
increasing n (t ∷ []) = tt
increasing n (t ∷ u ∷ ts) = (omega arith, increasing (n + 1) (u ∷ ts))

settled : (n : ℕ) (m end : Machine) (ts : List Turn) → Lead m ts end → IsUncontended (receipts_from n ts)
settled n m end [] lead = All-nil (λ r. is_contended r.reply ≡ false)
settled n m end (t ∷ ts) lead =
    All-cons (λ r. is_contended r.reply ≡ false) (receipt_of n t) (receipts_from (n + 1) ts) lead.1.settled
    (settled (n + 1) lead.0 end ts lead.2)

workers : (n : ℕ) (ts : List Turn) → All (λ r. r.worker < 1) (receipts_from n ts)
workers n [] = All-nil (λ r. r.worker < 1)
workers n (t ∷ ts) = All-cons (λ r. r.worker < 1) (receipt_of n t) (receipts_from (n + 1) ts) (omega arith) (workers (n + 1) ts)

own : (n : ℕ) (ts : List Turn) → receipts_of 0 (receipts_from n ts) ≡ receipts_from n ts
own n [] = refl
own n (t ∷ ts) = ap (λ (rs : List Receipt). receipt_of n t ∷ rs) (own (n + 1) ts)

-- the machine after them is the one that they lead to
machine-after : (n : ℕ) (t : Moment) (m end : Machine) (ts : List Turn) → t.machine ≡ m → Lead m ts end
    → (moment_of t (receipts_from n ts)).machine ≡ end
machine-after n t m end [] e lead = e ∙ lead
machine-after n t m end (x ∷ ts) e lead =
    let r : Receipt = receipt_of n x in
    let may : MayAnswer t.machine lead.0 x.call x.reply =
    subst (λ (k : Machine). MayAnswer k lead.0 x.call x.reply) (sym e) lead.1
    in machine-after (n + 1) (next_moment t r) lead.0 end ts (machine_next-is t.machine lead.0 r may) lead.2

legal : (m end : Machine) (ts : List Turn) → Lead m ts end → IsLegalHistory m (receipts_from 0 ts)
legal m end ts lead = record { in_order = increasing 0 ts; replies = legal-from 0 (beginning m) m end ts refl lead }

legals : (m end : Machine) (tss : List (List Turn)) → Leads m tss end → AreLegalHistories m (histories_of tss)
legals m end [] l = tt
legals m end (ts ∷ tss) l = (
  legal m l.0 ts l.1,
  subst (λ (k : Machine). AreLegalHistories k (histories_of tss)) (sym (machine-after 0 (beginning m) m l.0 ts refl l.1))
      (legals l.0 end tss l.2),
)

shuffles : (ps : List (List WorkerLine)) (tss : List (List Turn)) → AreRuns ps tss
    → IsShuffle (map (threads_of 1) ps) (histories_of tss)
shuffles [] [] r = refl
shuffles [] (ts ∷ tss) r = absurd r
shuffles (p ∷ ps) [] r = absurd r
shuffles (p ∷ ps) (ts ∷ tss) r = (
  record {
    workers = workers 0 ts;
    each = (subst (λ (qs : List Receipt). Runs (calls_of_thread 1 p 0) qs) (sym (own 0 ts)) r.0, tt);
  },
  shuffles ps tss r.1,
)

-- what is accepted doesn't rest on the numbers of the receipts
accepted-behind : (m : Machine) (k n : ℕ) (ts us : List Turn) (rs : List Receipt)
    → ((x : Machine) (i : ℕ) → acceptings x rs ≡ acceptings x (receipts_from i us))
    → acceptings m (receipts_from k ts ++ rs) ≡ acceptings m (receipts_from n (ts ++ us))
accepted-behind m k n [] us rs e = e m n
accepted-behind m k n (t ∷ ts) us rs e =
    ap (λ (found : List Accepting). option_to_list (accepting_of m t.call t.reply) ++ found)
    (accepted-behind (machine_next m (receipt_of k t)) (k + 1) (n + 1) ts us rs e)

accepted : (m : Machine) (n : ℕ) (tss : List (List Turn))
    → acceptings m (joined (histories_of tss)) ≡ acceptings m (receipts_from n (all_turns tss))
accepted m n [] = refl
accepted m n (ts ∷ tss) =
    accepted-behind m 0 n ts (all_turns tss) (joined (histories_of tss)) (λ (x : Machine) (i : ℕ). accepted x i tss)

settled-all : (m end : Machine) (tss : List (List Turn)) → Leads m tss end → IsUncontended (joined (histories_of tss))
settled-all m end [] l = All-nil (λ r. is_contended r.reply ≡ false)
settled-all m end (ts ∷ tss) l =
    All-append (λ r. is_contended r.reply ≡ false) (receipts_from 0 ts) (joined (histories_of tss)) (settled 0 m l.0 ts l.1)
    (settled-all l.0 end tss l.2)

-- all turns lead as those of the phases do
pub Leads-all : (m end : Machine) (tss : List (List Turn)) → Leads m tss end → Lead m (all_turns tss) end
Leads-all m end [] l = l
Leads-all m end (ts ∷ tss) l = Lead-join m l.0 end ts (all_turns tss) l.1 (Leads-all l.0 end tss l.2)

-- turns from the beginning, phase by phase those of the lines, are histories of them
pub AreHistoriesOf-turns : (end : Machine) (ps : List (List WorkerLine)) (tss : List (List Turn)) → Leads (empty 4096 8192) tss end
    → AreRuns ps tss → AreHistoriesOf ps (histories_of tss)
AreHistoriesOf-turns end ps tss leads runs =
    let m : Machine = empty 4096 8192 in
    let rs : List Receipt = receipts_from 0 (all_turns tss) in
    let once : AcceptsOnce m rs =
    accepts-once m rs (empty-is 4096 8192 (omega arith) (omega arith))
    (legal m end (all_turns tss) (Leads-all m end tss leads))
    in
    record {
      legal = legals m end tss leads;
      shuffle = shuffles ps tss runs;
      uncontended = settled-all m end tss leads;
      once = subst (λ (found : List Accepting). AllPairs (λ a b. a ≡ b → ⊥) found) (sym (accepted m 0 tss)) once;
    }

-- the text of the histories is that of all turns
pub text_of-histories : (tss : List (List Turn)) → text_of (joined (histories_of tss)) ≡ turns_text (all_turns tss)
text_of-histories [] = refl
text_of-histories (ts ∷ tss) =
    flat_map-append receipt_text (receipts_from 0 ts) (joined (histories_of tss))
    ∙ (λ i. text_of-turns 0 ts i ++ text_of-histories tss i)
    ∙ sym (text_join ts (all_turns tss))

-- and so is whether one refuses
pub has_refusal-histories : (tss : List (List Turn)) → has_refusal (joined (histories_of tss)) ≡ is_refused (all_turns tss)
has_refusal-histories [] = refl
has_refusal-histories (ts ∷ tss) =
    list_any-append (λ (r : Receipt). is_refusal_of r.reply) (receipts_from 0 ts) (joined (histories_of tss))
    ∙ (λ i. has_refusal-turns 0 ts i || has_refusal-histories tss i)
    ∙ sym (list_any-append (λ (t : Turn). is_refusal_of t.reply) ts (all_turns tss))
