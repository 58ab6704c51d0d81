pub mod AskedCommands
pub mod FetchedBytes
pub mod FileFindings
pub mod NumbersRead
pub mod PrintedCertificates
pub mod PrintingRuns
pub mod SoundScripts
pub mod WritingEnded
