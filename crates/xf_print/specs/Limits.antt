-- Limits.
use Rattle.std.specs.Prelude.{ℕ, ◌==◌, if◌then◌else◌, List, [], ◌++◌, codes, decimal, Option, Some, None}
use Rattle.xf_types.specs.declared.policy.Limits.{Limits}

-- a limit and its kind
unfoldable pub limit_text : List ℕ → ℕ → List ℕ
limit_text kind n = codes " limit " ++ kind ++ codes " " ++ decimal n

-- a limit in time, of which 0 is none
unfoldable pub time_text : List ℕ → ℕ → List ℕ
time_text kind n = if n == 0 then [] else limit_text kind n

-- a limit in bytes or packets, where there is one
unfoldable pub count_text : List ℕ → Option ℕ → List ℕ
count_text kind None = []
count_text kind (Some n) = limit_text kind n

-- the limits in time
unfoldable pub times_text : Limits → List ℕ
times_text l =
    time_text (codes "time-soft") l.time_soft ++ time_text (codes "time-hard") l.time_hard
    ++ time_text (codes "time-use-soft") l.use_soft ++ time_text (codes "time-use-hard") l.use_hard

-- the limits in bytes and packets
unfoldable pub counts_text : Limits → List ℕ
counts_text l =
    count_text (codes "byte-soft") l.byte_soft ++ count_text (codes "byte-hard") l.byte_hard
    ++ count_text (codes "packet-soft") l.packet_soft ++ count_text (codes "packet-hard") l.packet_hard

-- the limits that there are
unfoldable pub limits_text : Limits → List ℕ
limits_text l = times_text l ++ counts_text l
