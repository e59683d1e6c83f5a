-- The output of `metrics`: Prometheus' text format, version 0.0.4 (docs/COMMANDS.md, "metrics").
use Rattle.std.specs.Prelude.{◌++◌, List, None, Option, Some, [], codes, decimal, length, ℕ}
use Rattle.std.specs.List.{flat_map}
use Rattle.ipv4_fields.specs.Endpoint.{endpoint_text}
use Rattle.ipv4_fields.specs.declared.endpoint.Endpoint.{Endpoint}
use Rattle.counter_text.specs.declared.counters.Counters.{Counters}
use Rattle.counter_text.specs.declared.counters.FrontDrops.{FrontDrops}
use Rattle.counter_text.specs.declared.counters.GroupCount.{GroupCount}
use Rattle.counter_text.specs.declared.counters.MemberCount.{MemberCount}
use Rattle.counter_text.specs.declared.counters.Totals.{Totals}
use Rattle.counter_text.specs.declared.metrics.TheConstants.{CHARGE_LIMIT}
use Rattle.counter_text.specs.declared.metrics.GroupMetric.{GroupMetric}
use Rattle.counter_text.specs.declared.metrics.GroupMetric.TheVariants as of_group
use Rattle.counter_text.specs.declared.metrics.MemberMetric.{MemberMetric}
use Rattle.counter_text.specs.declared.metrics.MemberMetric.TheVariants as of_member

-- ---- labels: a name, and a value between quotes. No value has a byte that must be escaped

unfoldable pub result_label : List ℕ → List ℕ
result_label name = codes "result=\"" ++ (name ++ codes "\"")

unfoldable pub group_labels : Endpoint → List ℕ
group_labels key = codes "group=\"" ++ (endpoint_text key ++ codes "\"")

unfoldable pub member_labels : MemberCount → List ℕ
member_labels member =
    codes "group=\"" ++ (endpoint_text member.key ++ (codes "\",member=\"" ++ (decimal member.id ++ (codes "\",to=\"" ++ (endpoint_text member.to ++ codes "\"")))))

unfoldable pub with_result : List ℕ → List ℕ → List ℕ
with_result labels name = labels ++ (codes ",result=\"" ++ (name ++ codes "\""))

-- ---- lines

-- the two lines before the samples of a metric
unfoldable pub block_head : (name kind help : List ℕ) → List ℕ
block_head name kind help =
    codes "# HELP " ++ (name ++ (codes " " ++ (help ++ (codes "\n# TYPE " ++ (name ++ (codes " " ++ (kind ++ codes "\n")))))))

unfoldable pub sample : (name labels : List ℕ) → ℕ → List ℕ
sample name labels value = name ++ (codes "{" ++ (labels ++ (codes "} " ++ (decimal value ++ codes "\n"))))

-- a metric that has one sample, without labels
unfoldable pub single_block : (name kind help : List ℕ) → ℕ → List ℕ
single_block name kind help value = block_head name kind help ++ (name ++ (codes " " ++ (decimal value ++ codes "\n")))

-- ---- metrics

abbrev pub totals_block : Totals → List ℕ
totals_block totals =
    let name = codes "dswitch_datagrams_total" in
    block_head name (codes "counter") (codes "Datagrams that came to the front, by what became of them.")
    ++ sample name (result_label (codes "malformed")) totals.malformed ++ sample name (result_label (codes "nogroup")) totals.nogroup
    ++ sample name (result_label (codes "nomembers")) totals.nomembers ++ sample name (result_label (codes "dropped")) totals.dropped
    ++ sample name (result_label (codes "delivered")) totals.delivered

abbrev pub failures_block : Totals → List ℕ
failures_block totals =
    single_block (codes "dswitch_send_failures_total") (codes "counter") (codes "Delivered datagrams that could not be sent.") totals.sendfailed
    ++ single_block (codes "dswitch_receive_failures_total") (codes "counter") (codes "Failed receives at the front.") totals.receivefailed

abbrev pub rules_block : (version charge groups members : ℕ) → List ℕ
rules_block version charge groups members =
    single_block (codes "dswitch_rules_version") (codes "gauge") (codes "The version of the rules.") version
    ++ single_block (codes "dswitch_rules_charge") (codes "gauge") (codes "The charge of the rules.") charge
    ++ single_block (codes "dswitch_rules_charge_limit") (codes "gauge") (codes "The largest charge that rules may have.") CHARGE_LIMIT
    ++ single_block (codes "dswitch_groups") (codes "gauge") (codes "Groups of the rules.") groups
    ++ single_block (codes "dswitch_members") (codes "gauge") (codes "Members of all groups.") members

abbrev pub group_name : GroupMetric → List ℕ
group_name of_group.Datagrams = codes "dswitch_group_datagrams_total"
group_name of_group.SendFailures = codes "dswitch_group_send_failures_total"

abbrev pub group_help : GroupMetric → List ℕ
group_help of_group.Datagrams = codes "Datagrams to a group, by what became of them. Members that left are counted too."
group_help of_group.SendFailures = codes "Delivered datagrams of a group that could not be sent."

abbrev pub group_samples : GroupMetric → GroupCount → List ℕ
group_samples of_group.Datagrams group =
    let name = group_name of_group.Datagrams in
    let labels = group_labels group.key in
    sample name (with_result labels (codes "nomembers")) group.nomembers ++ sample name (with_result labels (codes "dropped")) group.dropped
    ++ sample name (with_result labels (codes "delivered")) group.delivered
group_samples of_group.SendFailures group = sample (group_name of_group.SendFailures) (group_labels group.key) group.sendfailed

abbrev pub group_block : GroupMetric → List GroupCount → List ℕ
group_block metric groups = block_head (group_name metric) (codes "counter") (group_help metric) ++ flat_map (group_samples metric) groups

abbrev pub member_name : MemberMetric → List ℕ
member_name of_member.Datagrams = codes "dswitch_member_datagrams_total"
member_name of_member.SendFailures = codes "dswitch_member_send_failures_total"
member_name of_member.Bytes = codes "dswitch_member_bytes_total"

abbrev pub member_help : MemberMetric → List ℕ
member_help of_member.Datagrams = codes "Datagrams to a member, by what became of them."
member_help of_member.SendFailures = codes "Delivered datagrams of a member that could not be sent."
member_help of_member.Bytes = codes "Bytes of the datagrams that were delivered to a member."

abbrev pub member_samples : MemberMetric → MemberCount → List ℕ
member_samples of_member.Datagrams member =
    let name = member_name of_member.Datagrams in
    let labels = member_labels member in
    sample name (with_result labels (codes "dropped")) member.dropped ++ sample name (with_result labels (codes "delivered")) member.delivered
member_samples of_member.SendFailures member = sample (member_name of_member.SendFailures) (member_labels member) member.sendfailed
member_samples of_member.Bytes member = sample (member_name of_member.Bytes) (member_labels member) member.bytes

abbrev pub member_block : MemberMetric → List MemberCount → List ℕ
member_block metric members = block_head (member_name metric) (codes "counter") (member_help metric) ++ flat_map (member_samples metric) members

unfoldable pub front_labels : Endpoint → List ℕ
front_labels front = codes "front=\"" ++ (endpoint_text front ++ codes "\"")

-- the kernel's drops at a front, if they were asked for
abbrev pub front_block : Option FrontDrops → List ℕ
front_block None = []
front_block (Some it) =
    let name = codes "dswitch_front_kernel_drops_total" in
    block_head name (codes "counter") (codes "Datagrams that the kernel dropped at the sockets of the front.") ++ sample name (front_labels it.front) it.drops

-- all that is written
abbrev pub metrics_text : Counters → Option FrontDrops → List ℕ
metrics_text counters front =
    totals_block counters.totals ++ failures_block counters.totals
    ++ rules_block counters.version counters.charge (length counters.groups.items) (length counters.members.items) ++ group_block of_group.Datagrams counters.groups.items
    ++ group_block of_group.SendFailures counters.groups.items ++ member_block of_member.Datagrams counters.members.items
    ++ member_block of_member.SendFailures counters.members.items ++ member_block of_member.Bytes counters.members.items ++ front_block front
