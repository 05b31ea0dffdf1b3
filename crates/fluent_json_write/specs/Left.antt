-- What is left of an object while its members are read.
use Rattle.serde_json.specs.Data.{Members as MembersData}
use Rattle.serde_json.specs.View.{members_view}
use Rattle.fluent_json_write.specs.declared.members.Members.{Members}

abbrev pub left : Members → MembersData
left ms = members_view ms.entries
