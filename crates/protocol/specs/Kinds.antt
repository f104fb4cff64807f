-- The kinds of messages, operations and steps, by their numbers. Assumes nothing.
use Rattle.std.specs.Prelude.{ℕ, eqb, ◌≡◌, Result as Outcome, Ok, Err}
use Rattle.protocol.specs.declared.kinds.UnknownKind.{UnknownKind}
use Rattle.protocol.specs.declared.kinds.MessageKind.{MessageKind}
use Rattle.protocol.specs.declared.kinds.MessageKind.TheVariants.{Read, Write, End, Start, Answer}
use Rattle.protocol.specs.declared.kinds.Operation.{Operation}
use Rattle.protocol.specs.declared.kinds.Operation.TheVariants.{Write as Writing, Read as Reading}
use Rattle.protocol.specs.declared.kinds.StepKind.{StepKind}
use Rattle.protocol.specs.declared.kinds.StepKind.TheVariants.{Write as WriteStep, Read as ReadStep, Deliver, Take, Fault, FalseAnswer, NewView, GiveUp, Restart}
use Rattle.std.proofs.Common.{arith}
use Rattle.protocol.specs.Tools.{if}
use Rattle.protocol.specs.Servers.{READ, WRITE, END, START, ANSWER}
use Rattle.protocol.specs.Clients.{WRITES, READS}
use Rattle.protocol.specs.Steps.{write_step, read_step, deliver_step, take_step, fault_step, false_step, view_step, give_up_step, restart_step}

abbrev pub message_code : MessageKind → ℕ
message_code Read = READ
message_code Write = WRITE
message_code End = END
message_code Start = START
message_code Answer = ANSWER

abbrev pub operation_code : Operation → ℕ
operation_code Writing = WRITES
operation_code Reading = READS

abbrev pub step_code : StepKind → ℕ
step_code WriteStep = write_step
step_code ReadStep = read_step
step_code Deliver = deliver_step
step_code Take = take_step
step_code Fault = fault_step
step_code FalseAnswer = false_step
step_code NewView = view_step
step_code GiveUp = give_up_step
step_code Restart = restart_step

-- the kind that a number names, if it names one
abbrev pub unknown : {A : Type 0} → ℕ → Outcome A UnknownKind
unknown n = Err (record { 0 = n })

abbrev pub named_message : ℕ → Outcome MessageKind UnknownKind
named_message n =
    if (eqb n READ) (Ok Read)
    (if (eqb n WRITE) (Ok Write)
    (if (eqb n END) (Ok End)
    (if (eqb n START) (Ok Start)
    (if (eqb n ANSWER) (Ok Answer) (unknown n)))))

abbrev pub named_operation : ℕ → Outcome Operation UnknownKind
named_operation n = if (eqb n WRITES) (Ok Writing) (if (eqb n READS) (Ok Reading) (unknown n))

abbrev pub named_step : ℕ → Outcome StepKind UnknownKind
named_step n =
    if (eqb n write_step) (Ok WriteStep)
    (if (eqb n read_step) (Ok ReadStep)
    (if (eqb n deliver_step) (Ok Deliver)
    (if (eqb n take_step) (Ok Take)
    (if (eqb n fault_step) (Ok Fault)
    (if (eqb n false_step) (Ok FalseAnswer)
    (if (eqb n view_step) (Ok NewView)
    (if (eqb n give_up_step) (Ok GiveUp)
    (if (eqb n restart_step) (Ok Restart) (unknown n)))))))))

-- the kind that a number names has that number
pub step_named : (n : ℕ) (k : StepKind) → Ok k ≡ named_step n → n ≡ step_code k
step_named n k e = grind arith
