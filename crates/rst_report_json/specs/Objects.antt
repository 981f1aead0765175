-- An object under way.
use Rattle.serde_json.specs.Data.{Members}
use Rattle.serde_json.specs.View.{members_view}
use Rattle.rst_report_json.specs.declared.object.Object.{Object}

-- its members so far
abbrev pub members : Object → Members
members it = members_view it.members.entries
