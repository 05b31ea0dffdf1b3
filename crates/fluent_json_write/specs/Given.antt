-- What an object was given while it is made.
use Rattle.serde_json.specs.Data.{Members}
use Rattle.serde_json.specs.View.{members_view}
use Rattle.fluent_json_write.specs.declared.object.Object.{Object}

abbrev pub given : Object → Members
given o = members_view o.members.entries
