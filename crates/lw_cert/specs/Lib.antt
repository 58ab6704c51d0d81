pub mod Lines
pub mod Sheet
pub mod CertificateFaults
pub mod Certificates
pub mod Written
pub mod Laws
pub mod Private
