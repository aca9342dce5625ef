-- Which names, words and tables there are: the code's own tables.
use Rattle.std.specs.Prelude.{List, []}
use Rattle.xf_grammar.specs.declared.flow_tables.TheConstants as flow
use Rattle.xf_grammar.specs.declared.head.Head.{Head}
use Rattle.xf_grammar.specs.declared.head.Head.TheVariants as head
use Rattle.xf_grammar.specs.declared.row.Args.{Args}
use Rattle.xf_grammar.specs.declared.row.Args.TheVariants as args
use Rattle.xf_grammar.specs.declared.row.Name.{Name}
use Rattle.xf_grammar.specs.declared.row.Names.{Names}
use Rattle.xf_grammar.specs.declared.row.Names.TheVariants as names
use Rattle.xf_grammar.specs.declared.row.Row.{Row}
use Rattle.xf_grammar.specs.declared.row.Table.{Table}
use Rattle.xf_grammar.specs.declared.row.Table.TheVariants as table
use Rattle.xf_grammar.specs.declared.state_tables.TheConstants as state
use Rattle.xf_grammar.specs.declared.tables.TheConstants as constant
use Rattle.xf_grammar.specs.declared.template_tables.TheConstants as template

-- the names of a list
abbrev pub names_of : Names → List Name
names_of names.None = []
names_of names.Dirs = constant.DIRS
names_of names.Ptypes = constant.PTYPES
names_of names.Actions = constant.ACTIONS
names_of names.Protocols = constant.PROTOCOLS
names_of names.Headers = constant.HEADERS
names_of names.Anys = constant.ANYS
names_of names.StateProtocols = state.STATE_PROTOCOLS
names_of names.PacketProtocols = state.PACKET_PROTOCOLS
names_of names.Modes = state.MODES
names_of names.Icvs = state.ICVS
names_of names.Levels = template.LEVELS
names_of names.Times = flow.TIMES

-- the rows of a table
abbrev pub rows_of : Table → List Row
rows_of table.None = []
rows_of table.Selector = constant.SELECTOR
rows_of table.PolicySpec = constant.POLICY_SPEC
rows_of table.PolicyKey = constant.POLICY_KEY
rows_of table.PolicyFilter = constant.POLICY_FILTER
rows_of table.PolicyKind = constant.POLICY_KIND
rows_of table.Thresholds = constant.THRESHOLDS
rows_of table.Flow = flow.FLOW
rows_of table.Mask = constant.MASK
rows_of table.PolicyFlags = constant.POLICY_FLAGS
rows_of table.Limits = constant.LIMITS
rows_of table.Template = template.TEMPLATE
rows_of table.Refused = constant.REFUSED
rows_of table.StateSpec = state.STATE_SPEC
rows_of table.StateId = state.STATE_ID
rows_of table.StateFilter = state.STATE_FILTER
rows_of table.StateKind = state.STATE_KIND
rows_of table.StateFlags = state.STATE_FLAGS
rows_of table.StateRefused = state.STATE_REFUSED
rows_of table.Alloc = state.ALLOC
rows_of table.AllocRefused = state.ALLOC_REFUSED
rows_of table.Packet = state.PACKET
rows_of table.Length = flow.LENGTH

-- the tables of a line's own words
abbrev pub tables_of : Head → List Table
tables_of head.PolicyAdd = constant.SPEC_TABLES
tables_of head.PolicyUpdate = constant.SPEC_TABLES
tables_of head.PolicyDelete = constant.KEY_TABLES
tables_of head.PolicyGet = constant.KEY_TABLES
tables_of head.PolicyDeleteAll = constant.FILTER_TABLES
tables_of head.PolicyList = constant.FILTER_TABLES
tables_of head.PolicyFlush = constant.FLUSH_TABLES
tables_of head.PolicyCount = []
tables_of head.PolicySet = constant.SET_TABLES
tables_of head.StateAdd = state.STATE_SPEC_TABLES
tables_of head.StateUpdate = state.STATE_SPEC_TABLES
tables_of head.StateDelete = state.STATE_ID_TABLES
tables_of head.StateGet = state.STATE_ID_TABLES
tables_of head.StateDeleteAll = state.STATE_FILTER_TABLES
tables_of head.StateList = state.STATE_FILTER_TABLES
tables_of head.StateFlush = state.STATE_FLUSH_TABLES
tables_of head.StateCount = []
tables_of head.AllocSpi = state.ALLOC_TABLES
tables_of (head.Flow dir) = flow.FLOW_TABLES
tables_of head.Send = flow.SEND_TABLES
tables_of head.Packet = state.PACKET_TABLES
tables_of head.Tick = []
tables_of head.Worker = []
tables_of head.Sync = []

-- what has to come directly after a head
abbrev pub first_of : Head → Args
first_of head.Tick = flow.TICK
first_of head.Worker = flow.WORKER
first_of _ = args.None
