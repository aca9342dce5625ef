-- The four phases of the large input that a seed makes: 2,000 policies and states are added, packets go out and come in, every second
-- policy and state is deleted, and flows are looked up. Its lines are those of four workers.
use Rattle.std.specs.Prelude.{ℕ, ◌==◌, ◌+◌, ◌-◌, ◌*◌, ◌%◌, ◌^◌, if◌then◌else◌, List, [], ◌∷◌, ◌++◌, length, map, sum}
use Rattle.std.specs.List.{flat_map}
use Rattle.xf_types.specs.Batch.{Line, One, Send, WorkerLine}
use Rattle.xf_types.specs.Counters.{upwards}
use Rattle.xf_batch.specs.declared.task.Job.{Job}
use Rattle.xf_batch.specs.Shown.{line_with}
use Rattle.xf_batch.specs.GeneratedCalls.{x_after, value_of, value_at, add_policy, add_state, send_to, bring, delete_policy, delete_state, look_up}

-- the numbers below n, in order
unfoldable pub below : ℕ → List ℕ
below n = upwards 0 n

-- ---- what worker w asks for, in order, where its x is as the phase begins

-- a policy for each destination, each with a value of its own
abbrev pub policies : ℕ → ℕ → List Job
policies w x = map (λ i. add_policy w i (value_at i x)) (below 500)

-- a state for each destination
abbrev pub states : ℕ → List Job
states w = map (add_state w) (below 500)

-- phase 1: the policies, and then the states
abbrev pub adding : ℕ → ℕ → List Job
adding w x = policies w x ++ states w

-- 1,000 sends, each with a value of its own
abbrev pub sends : ℕ → ℕ → List Job
sends w x = map (λ i. send_to w (value_at i x)) (below 1000)

-- 500 packets, numbered from 1 on, each with a value of its own, and then the last of them again
abbrev pub packets : ℕ → ℕ → List Job
packets w x = map (λ i. bring w (value_at i x) (i + 1)) (below 500) ++ bring w (value_at 499 x) 500 ∷ []

-- the last packet alone, where x is as it was behind its value
abbrev pub last_packet : ℕ → ℕ → List Job
last_packet w x = bring w (value_of x) 500 ∷ []

-- phase 2: the sends, and then the packets with the values after theirs
abbrev pub traffic : ℕ → ℕ → List Job
traffic w x = sends w x ++ packets w (x_after 1000 x)

-- phase 3: policy i and then state i, for each even i below 500
abbrev pub deleting : ℕ → List Job
deleting w = flat_map (λ k. delete_policy w (2 * k) ∷ delete_state w (2 * k) ∷ []) (below 250)

-- phase 4: 1,000 flows, to the destinations in turn from the one on that a value says
abbrev pub looking_up : ℕ → ℕ → List Job
looking_up w x = map (λ i. look_up w ((i + value_at 0 x % 500) % 500)) (below 1000)

-- by phase
abbrev pub jobs_of : ℕ → ℕ → ℕ → List Job
jobs_of phase w x =
    if phase == 1 then adding w x else (if phase == 2 then traffic w x else (if phase == 3 then deleting w else looking_up w x))

-- how many values that takes
abbrev pub values_of : ℕ → ℕ
values_of phase = if phase == 1 then 500 else (if phase == 2 then 1500 else (if phase == 3 then 0 else 1))

-- the x of worker w as the phase begins: it began as seed + w, in 64 bits, and ran on through the phases before
abbrev pub x_at : ℕ → ℕ → ℕ → ℕ
x_at seed phase w = x_after (sum (map values_of (upwards 1 (phase - 1)))) ((seed + w) % 2 ^ 64)

-- what worker w asks for in a phase
abbrev pub jobs_in : ℕ → ℕ → ℕ → List Job
jobs_in seed phase w = jobs_of phase w (x_at seed phase w)

-- ---- lines and their numbers

-- lines that ask for these, with the numbers from n on
abbrev pub numbered : ℕ → List Job → List Line
numbered n [] = []
numbered n (j ∷ js) = line_with n j ∷ numbered (n + 1) js

-- how many lines worker w has in a phase: the line `worker w`, and its call lines
abbrev pub part_size : ℕ → ℕ → ℕ → ℕ
part_size seed phase w = 1 + length (jobs_in seed phase w)

-- how many lines a phase has that isn't the last one: those of its workers, and the line `sync`
abbrev pub phase_size : ℕ → ℕ → ℕ
phase_size seed phase = sum (map (part_size seed phase) (below 4)) + 1

-- the number of a phase's line `worker w`: 1, and how many lines are in the phases before, and in the parts of the workers before
abbrev pub worker_line : ℕ → ℕ → ℕ → ℕ
worker_line seed phase w =
    1 + sum (map (phase_size seed) (upwards 1 (phase - 1))) + sum (map (part_size seed phase) (below w))

-- the call lines of worker w in a phase, behind the line `worker w`
abbrev pub part : ℕ → ℕ → ℕ → List WorkerLine
part seed phase w =
    map (λ l. record { worker = w; line = l }) (numbered (worker_line seed phase w + 1) (jobs_in seed phase w))

-- the call lines of a phase, from 1 to 4
unfoldable pub generated : ℕ → ℕ → List WorkerLine
generated seed phase = flat_map (part seed phase) (below 4)

-- the number of a call line
abbrev pub line_number : Line → ℕ
line_number (One n c) = n
line_number (Send n flow len) = n
