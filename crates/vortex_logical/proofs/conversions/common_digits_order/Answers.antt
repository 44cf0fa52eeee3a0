use Rattle.vortex_logical.proofs.MeetingLemmas as meetings
use Rattle.vortex_logical.proofs.conversions.common_digits_order.Goals as goal

pub returns : goal.returns
returns c = meetings.common_digits_order
