-- What a phase comes to, where it was read and its lines were run.
use Rattle.std.proofs.Common.{◌≡◌, inl, inr, ℕ, Bool, true, false, List, [], get_or, Option, Ok, Err, ap, refl}
use Rattle.std.proofs.KnownBytes.{Appends-nil}
use Rattle.xf_types.specs.declared.status.Reason.{Reason}
use Rattle.xf_types.specs.declared.status.Status.{Status}
use Rattle.xf_types.specs.declared.status.Status.TheVariants as status
use Rattle.xf_types.specs.Batch.{Line}
use Rattle.xf_types.specs.Machine.{Machine}
use Rattle.xf_read.specs.declared.reader.Unread.{Unread}
use Rattle.xf_read.specs.declared.reader.Reader.{Reader}
use Rattle.xf_batch.specs.declared.phase.Phase.{Phase}
use Rattle.xf_batch.specs.Reading.{GivesPhase, HasPassed, IsCutOff, IsFirstBad}
use Rattle.xf_batch.specs.Shown.{phase_shown, threads_shown}
use Rattle.xf_run.specs.Progress.{RunsLines, StopsBehind, StopsWithin}
use Rattle.xf_run.specs.Phases.{Reported, TakesPhase, RunsNext}

-- where the input goes on, its end wasn't read
pub goes_on_by : (more ended : Bool) → (ended ≡ true → more ≡ false) → more ≡ true → ended ≡ false
goes_on_by more true off on = absurd (cc (off refl, on))
goes_on_by more false off on = refl

-- its lines were run
pub next_ran : (now : ℕ) (old : Unread) (left_old left_new : Option (List ℕ)) (m n : Machine) (phase : Phase) (reader : Reader)
    (more refused : Bool) (ls : List Line) (a b c : Option (List ℕ)) → more ≡ phase.more
    → ls ≡ get_or (threads_shown phase.threads.items) 0 []
    → TakesPhase now old left_old left_new a b (Ok (phase, reader)) → RunsLines m n ls refused b c → b ≡ a
    → RunsNext now old left_old left_new m n a c (Ok (record { reader = reader; more = more; refused = refused }))
next_ran now old left rest m n phase reader more refused ls a b c e l t r same = record {
  lines = ls;
  read = rw (e, l) t;
  ran = rw (← same) r;
}

-- memory ran out behind one of its lines
pub next_cut : (now : ℕ) (old : Unread) (left_old left_new : Option (List ℕ)) (m n : Machine) (phase : Phase) (reader : Reader)
    (ls : List Line) (a b c : Option (List ℕ)) → ls ≡ get_or (threads_shown phase.threads.items) 0 []
    → TakesPhase now old left_old left_new a b (Ok (phase, reader)) → StopsBehind m ls b c → b ≡ a
    → RunsNext now old left_old left_new m n a c (Err status.NoMemory)
next_cut now old left rest m n phase reader ls a b c l t s same = inr (record {
  new = reader.unread;
  more = phase.more;
  lines = ls;
  read = rw l t;
  stops = rw (← same) s;
})

-- a write failed within one of its lines
pub next_broken : (now : ℕ) (old : Unread) (left_old left_new : Option (List ℕ)) (m n : Machine) (phase : Phase) (reader : Reader)
    (ls : List Line) (a b c : Option (List ℕ)) → ls ≡ get_or (threads_shown phase.threads.items) 0 []
    → TakesPhase now old left_old left_new a b (Ok (phase, reader)) → StopsWithin m ls b c → b ≡ a
    → RunsNext now old left_old left_new m n a c (Err status.WriteFault)
next_broken now old left rest m n phase reader ls a b c l t s same = inl (record {
  new = reader.unread;
  more = phase.more;
  lines = ls;
  read = rw l t;
  stops = rw (← same) s;
})

-- the reading of a phase ended the run, or the run ended with it
pub next_ended : (now : ℕ) (old : Unread) (left_old left_new : Option (List ℕ)) (m n : Machine) (s : Status) (a c : Option (List ℕ))
    → TakesPhase now old left_old left_new a c (Err s) → RunsNext now old left_old left_new m n a c (Err s)
next_ended now old left left_new m n (status.BadLine line reason) a c t = t
next_ended now old left left_new m n status.ReadFault a c t = t
next_ended now old left left_new m n status.WriteFault a c t = inr t
next_ended now old left left_new m n status.NoMemory a c t = inl t
next_ended now old left left_new m n status.Done a c t = absurd t
next_ended now old left left_new m n status.Refusals a c t = absurd t
next_ended now old left left_new m n status.Usage a c t = absurd t

-- the phase was read
pub takes_phase : (now : ℕ) (old : Unread) (left_old left_new : Option (List ℕ)) (f0 f1 : ℕ) (phase : Phase) (reader : Reader) (a c : Option (List ℕ))
    → GivesPhase 1 now old left_old left_new f0 f1 (Ok (phase, reader)) → HasPassed 1 old reader.unread (phase_shown phase)
    → TakesPhase now old left_old left_new a c (Ok (phase, reader))
takes_phase now old left_old left_new f0 f1 phase reader a c h passed = record {
  read = h.read;
  consumed = h.has_read.consumed;
  end = h.has_read.end;
  goes_on = goes_on_by phase.more reader.unread.ended passed.whole.1;
  synced = phase.synced;
  calls = h.calls;
  lines = ap (λ (ts : List (List Line)). get_or ts 0 []) h.threads;
  makes = h.makes;
}

-- its first bad line was reported
pub bad_reading : (s : Status) (now : ℕ) (old : Unread) (left_old left_new : Option (List ℕ)) (line : ℕ) (why : Reason) (a c : Option (List ℕ))
    → IsFirstBad now old left_old left_new line why → Reported s line why a c → TakesPhase now old left_old left_new a c (Err s)
bad_reading (status.BadLine n reason) now old left_old left_new line why a c h r =
    (rw (r.0, r.1) h, rw (r.0, r.1) r.2)
bad_reading status.WriteFault now old left_old left_new line why a c h r = record { line = line; reason = why; found = h; part = r }
bad_reading status.NoMemory now old left_old left_new line why a c h r = r
bad_reading status.Done now old left_old left_new line why a c h r = absurd r
bad_reading status.Refusals now old left_old left_new line why a c h r = absurd r
bad_reading status.Usage now old left_old left_new line why a c h r = absurd r
bad_reading status.ReadFault now old left_old left_new line why a c h r = absurd r

-- a read failed
pub cut_reading : (now : ℕ) (old : Unread) (left_old left_new a : Option (List ℕ)) → IsCutOff now old left_old left_new
    → TakesPhase now old left_old left_new a a (Err status.ReadFault)
cut_reading now old left_old left_new a h = (h, Appends-nil a)
