-- How contracts see what is borrowed of a JSON value, and of a tree.
use Rattle.std.specs.Prelude.{Option, Some, None, option_map}
use Rattle.serde_json.specs.Data.{Members, no_members}
use Rattle.tree_mock.specs.declared.reading.Draft.{Draft}
use Rattle.spec_tree_file.specs.RuleFiles as files
use Rattle.spec_program.specs.ToldApart as apart
use Rattle.tree_mock.specs.declared.apart.Opening.{Opening}

-- the members of an object that may be left out
abbrev pub members_seen : Option Members → Members
members_seen None = no_members
members_seen (Some members) = members

-- what a configuration says, before its script is read
abbrev pub draft_seen : Draft → files.Draft
draft_seen draft = record {
  return_status = draft.return_status;
  async_delay = draft.async_delay;
  post_script = option_map (λ text. text.now) draft.post_script;
}

-- a tree that is opened
abbrev pub opening_seen : Opening → apart.Opening
opening_seen o = record { id = o.id.now; path = o.path }
