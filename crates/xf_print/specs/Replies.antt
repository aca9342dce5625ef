-- The texts of replies.
use Rattle.std.specs.Prelude.{ℕ, Bool, List, [], ◌++◌, length, map, codes, decimal}
use Rattle.std.specs.List.{flat_map}
use Rattle.xf_types.specs.declared.call.Event.{Event}
use Rattle.xf_types.specs.declared.call.Event.TheVariants as events
use Rattle.xf_types.specs.declared.call.Hop.{Hop}
use Rattle.xf_types.specs.declared.call.Reply.{Reply}
use Rattle.xf_types.specs.declared.call.Reply.TheVariants as replies
use Rattle.xf_addr.specs.Text.{addr_text}
use Rattle.xf_print.specs.Numbers.{hex_text, flag_text}
use Rattle.xf_print.specs.Words.{proto_text}
use Rattle.xf_print.specs.Records.{policy_text, state_text}

-- one state of a path
unfoldable pub hop_text : Hop → List ℕ
hop_text h = codes " " ++ proto_text h.proto ++ codes " " ++ hex_text h.spi ++ codes " " ++ addr_text h.dst

-- what the passing of time did
unfoldable pub event_text : Event → List ℕ
event_text (events.PolicySoft index) = codes "policy " ++ decimal index ++ codes " soft"
event_text (events.PolicyExpired index) = codes "policy " ++ decimal index ++ codes " expired"
event_text (events.StateSoft sid) = codes "state " ++ decimal sid ++ codes " soft"
event_text (events.StateExpired sid) = codes "state " ++ decimal sid ++ codes " expired"

-- the end of a line whose call just made a state dying
unfoldable pub soft_text : Bool → List ℕ
soft_text soft = flag_text (codes " soft") soft

-- the first line of a reply, and the only one of most
unfoldable pub reply_text : Reply → List ℕ
reply_text replies.Done = codes "ok"
reply_text (replies.DoneIndex index) = codes "ok index " ++ decimal index
reply_text (replies.DoneSid sid) = codes "ok sid " ++ decimal sid
reply_text (replies.DoneSpi spi sid) = codes "ok spi " ++ hex_text spi ++ codes " sid " ++ decimal sid
reply_text (replies.Removed count) = codes "ok removed " ++ decimal count
reply_text (replies.PolicyShown policy) = policy_text policy
reply_text (replies.PolicyList policies) = codes "list " ++ decimal (length policies)
reply_text (replies.PolicyCount inward outward forward) =
    codes "count in " ++ decimal inward ++ codes " out " ++ decimal outward ++ codes " fwd " ++ decimal forward
reply_text (replies.StateShown state) = state_text state
reply_text (replies.StateList states) = codes "list " ++ decimal (length states)
reply_text (replies.StateCount count) = codes "count " ++ decimal count
reply_text replies.FlowNone = codes "none"
reply_text (replies.FlowBlock index) = codes "policy " ++ decimal index ++ codes " block"
reply_text (replies.FlowAllow index path) = codes "policy " ++ decimal index ++ codes " allow" ++ flat_map hop_text path
reply_text (replies.Waiting seq) = codes "waiting " ++ decimal seq
reply_text (replies.Acquire seq) = codes "acquire " ++ decimal seq
reply_text (replies.Wanting index template) = codes "policy " ++ decimal index ++ codes " wants template " ++ decimal template
reply_text (replies.Again tries) = codes "again " ++ decimal tries
reply_text (replies.Accepted top soft) = codes "accepted top " ++ decimal top ++ soft_text soft
reply_text replies.Zero = codes "zero"
reply_text (replies.Old top) = codes "old top " ++ decimal top
reply_text (replies.Seen top) = codes "seen top " ++ decimal top
reply_text replies.Expired = codes "expired"
reply_text replies.Larval = codes "larval"
reply_text (replies.BadIcv soft) = codes "icv" ++ soft_text soft
reply_text (replies.Sent proto spi seq soft) =
    codes "sent " ++ proto_text proto ++ codes " " ++ hex_text spi ++ codes " seq " ++ decimal seq ++ soft_text soft
reply_text replies.Stale = codes "stale"
reply_text (replies.Overflow soft) = codes "overflow" ++ soft_text soft
reply_text (replies.Ticked now events) = codes "now " ++ decimal now ++ codes " events " ++ decimal (length events)
reply_text (replies.PolicyExists index) = codes "RTNETLINK answers: File exists"
reply_text (replies.StateExists sid) = codes "RTNETLINK answers: File exists"
reply_text replies.NoEntry = codes "RTNETLINK answers: No such file or directory"
reply_text replies.NoState = codes "RTNETLINK answers: No such process"
reply_text replies.Invalid = codes "RTNETLINK answers: Invalid argument"
reply_text (replies.Full live waiting) = codes "full live " ++ decimal live ++ codes " waiting " ++ decimal waiting
reply_text replies.NoSpi = codes "no spi"
reply_text replies.NoMemory = codes "RTNETLINK answers: Cannot allocate memory"

-- the lines after the first one: the records of a list, or the events
unfoldable pub further_texts : Reply → List (List ℕ)
further_texts (replies.PolicyList policies) = map policy_text policies
further_texts (replies.StateList states) = map state_text states
further_texts (replies.Ticked now events) = map event_text events
further_texts _ = []
