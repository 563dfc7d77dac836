-- The line that says why a run failed.
use Rattle.std.specs.Prelude.{ℕ, ◌++◌, ◌&&◌, nat_le, List, [], ◌∷◌, codes, if◌then◌else◌}
use Rattle.std.specs.Fmt.{decimal}
use Rattle.std.specs.List.{flat_map, concat}
use Rattle.hex.specs.Hex.{encode_lower}
use Rattle.sync_net.specs.declared.code.ErrorCode.{ErrorCode}
use Rattle.sync_net.specs.declared.code.ErrorCode.TheVariants.{InvalidRequest, DatabaseError, NetworkError, StaleTarget, Timeout, InternalError}
use Rattle.ledger_program.specs.Text.{key_text}
use Rattle.ledger_program.specs.declared.fault.Fault.{Fault}
use Rattle.ledger_program.specs.declared.fault.Fault.TheVariants.{Network, RequestChannelClosed, InvalidResponse, UnexpectedResponse, Server, InvalidProof, TooManyStrays, StaleUpdate, WrongRoot, BadLog, BadValue, Rejected, Full, OutOfMemory}
use Rattle.ledger_program.specs.declared.outcome.RunFault.{RunFault}
use Rattle.ledger_program.specs.declared.outcome.RunFault.TheVariants.{Usage, BadJob, JobRead, JobTooLarge, Dial, Follow, Output, OutOfMemory as NoMemory}
use Rattle.ledger_transfers.specs.declared.fault.Rejection.{Rejection}
use Rattle.ledger_transfers.specs.declared.fault.Rejection.TheVariants.{Refused, Insufficient, Overflow}

-- a line of these words and a number
unfoldable pub number_line : List ℕ → ℕ → List ℕ
number_line words n = concat (codes "error " ∷ words ∷ codes " " ∷ decimal n ∷ codes "\n" ∷ [])

-- a line of a word, a block and a key
unfoldable pub key_line : List ℕ → ℕ → List ℕ → List ℕ
key_line word block key = concat (codes "error " ∷ word ∷ codes " " ∷ decimal block ∷ codes " " ∷ key_text key ∷ codes "\n" ∷ [])

-- the line of an offence
abbrev pub rejection_line : ℕ → Rejection (List ℕ) → List ℕ
rejection_line block (Refused key) = key_line (codes "refused") block key
rejection_line block (Insufficient key) = key_line (codes "insufficient") block key
rejection_line block (Overflow key) = key_line (codes "overflow") block key

-- the number of a code
abbrev pub code_number : ErrorCode → ℕ
code_number InvalidRequest = 0
code_number DatabaseError = 1
code_number NetworkError = 2
code_number StaleTarget = 3
code_number Timeout = 4
code_number InternalError = 5

-- what a byte of a text prints as: itself from space to `~`, nothing behind a character's first byte, else `?`
abbrev pub printed_byte : ℕ → List ℕ
printed_byte b =
    if nat_le 32 b && nat_le b 126 then b ∷ [] else
    (if nat_le 128 b && nat_le b 191 then [] else 63 ∷ [])

-- a text whose characters outside space to `~` print as `?`
abbrev pub printable : List ℕ → List ℕ
printable text = flat_map printed_byte text

-- what stands before a server's text
unfoldable pub server_start : ErrorCode → List ℕ
server_start code = concat (codes "error server " ∷ decimal (code_number code) ∷ codes " " ∷ [])

-- the line of a server's refusal
abbrev pub server_line : ErrorCode → List ℕ → List ℕ
server_line code message = (server_start code ++ printable message) ++ codes "\n"

-- the line of a later target that isn't taken
unfoldable pub update_line : ℕ → ℕ → List ℕ
update_line start end = concat (codes "error " ∷ codes "update" ∷ codes " " ∷ decimal start ∷ codes " " ∷ decimal end ∷ codes "\n" ∷ [])

-- the line of a root that isn't that of the synced target
unfoldable pub root_line : List ℕ → List ℕ
root_line found = concat (codes "error root " ∷ encode_lower found ∷ codes "\n" ∷ [])

-- the line of a fault of following a log
abbrev pub follow_line : Fault → List ℕ
follow_line Network = codes "error network\n"
follow_line RequestChannelClosed = codes "error closed\n"
follow_line InvalidResponse = codes "error response\n"
follow_line (UnexpectedResponse number) = number_line (codes "unexpected") number
follow_line (Server code message) = server_line code message
follow_line (InvalidProof number) = number_line (codes "proof") number
follow_line TooManyStrays = codes "error strays\n"
follow_line (StaleUpdate start end) = update_line start end
follow_line (WrongRoot found) = root_line found
follow_line (BadLog location) = number_line (codes "log") location
follow_line (BadValue location) = number_line (codes "value") location
follow_line (Rejected block rejection) = rejection_line block rejection
follow_line (Full block) = number_line (codes "full") block
follow_line OutOfMemory = codes "error memory\n"

-- the line of a fault; after a failed write there is none
abbrev pub line_of : RunFault → List ℕ
line_of Usage = codes "error usage\n"
line_of (BadJob line) = number_line (codes "job line") line
line_of JobRead = codes "error job read\n"
line_of JobTooLarge = codes "error job too large\n"
line_of Dial = codes "error dial\n"
line_of (Follow fault) = follow_line fault
line_of Output = []
line_of NoMemory = codes "error memory\n"
