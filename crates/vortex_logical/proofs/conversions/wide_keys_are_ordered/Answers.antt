use Rattle.vortex_logical.proofs.MeetingLemmas as meetings
use Rattle.vortex_logical.proofs.conversions.wide_keys_are_ordered.Goals as goal

pub returns : goal.returns
returns c = meetings.wide_keys_are_ordered
