-- The codes of errors.
use Rattle.sync_net.specs.declared.code.ErrorCode.{ErrorCode}
use Rattle.sync_net.specs.declared.code.ErrorCode.TheVariants as codes
use Rattle.sync_net.specs.declared.error.Error.{Error}
use Rattle.sync_net.specs.declared.error.Error.TheVariants as errors

-- four errors have codes of their own, and all others are internal
abbrev pub code_for : Error → ErrorCode
code_for errors.Network = codes.NetworkError
code_for (errors.UnexpectedResponse request_id) = codes.InternalError
code_for (errors.Server code message) = codes.InternalError
code_for (errors.InvalidRequest text) = codes.InvalidRequest
code_for (errors.StaleTarget text) = codes.StaleTarget
code_for errors.Database = codes.DatabaseError
code_for errors.RequestChannelClosed = codes.InternalError
code_for (errors.ResponseChannelClosed request_id) = codes.InternalError
code_for errors.InvalidResponse = codes.InternalError
code_for (errors.TargetUpdateChannel reason) = codes.InternalError
code_for (errors.InvalidConfig text) = codes.InternalError
